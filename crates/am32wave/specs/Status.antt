-- What a status says, as a text and as a number.
use Rattle.std.specs.Prelude.{ℕ, List, [], ◌++◌, codes}
use Rattle.std.specs.Fmt.{decimal}
use Rattle.am32wave.specs.declared.journal.Refusal.{Refusal}
use Rattle.am32wave.specs.declared.journal.Refusal.TheVariants as refusal
use Rattle.trace_text.specs.declared.item.Refusal.{Refusal as TraceRefusal}
use Rattle.trace_text.specs.declared.item.Refusal.TheVariants as trace_refusal
use Rattle.am32wave.specs.declared.status.Status.{Status}
use Rattle.am32wave.specs.declared.status.Status.TheVariants as status

abbrev pub refusal_name : Refusal → List ℕ
refusal_name refusal.NotANote = codes "NotANote"
refusal_name refusal.TimeBack = codes "TimeBack"
refusal_name refusal.NoEnd = codes "NoEnd"
refusal_name refusal.TooMany = codes "TooMany"

abbrev pub trace_refusal_name : TraceRefusal → List ℕ
trace_refusal_name trace_refusal.TooLong = codes "TooLong"
trace_refusal_name trace_refusal.BadTime = codes "BadTime"
trace_refusal_name trace_refusal.TimeBack = codes "TimeBack"
trace_refusal_name trace_refusal.TooLate = codes "TooLate"
trace_refusal_name trace_refusal.BadKind = codes "BadKind"
trace_refusal_name trace_refusal.BadValue = codes "BadValue"
trace_refusal_name trace_refusal.Trailing = codes "Trailing"
trace_refusal_name trace_refusal.TooClose = codes "TooClose"
trace_refusal_name trace_refusal.NoEnd = codes "NoEnd"
trace_refusal_name trace_refusal.AfterEnd = codes "AfterEnd"
trace_refusal_name trace_refusal.TooMany = codes "TooMany"

-- the line on standard error, with its line feed
abbrev pub status_bytes : Status → List ℕ
status_bytes status.Done = []
status_bytes (status.Refused line kind) = codes "am32wave: line " ++ decimal line ++ codes ": " ++ refusal_name kind ++ codes "\n"
status_bytes (status.TraceRefused line kind) =
    codes "am32wave: trace line " ++ decimal line ++ codes ": " ++ trace_refusal_name kind ++ codes "\n"
status_bytes status.Usage = codes "am32wave: usage\n"
status_bytes status.ReadFault = codes "am32wave: read fault\n"
status_bytes status.TraceFault = codes "am32wave: trace: read fault\n"
status_bytes status.WriteFault = codes "am32wave: write fault\n"
status_bytes status.NoMemory = codes "am32wave: no memory\n"

-- the exit status
abbrev pub exit_number : Status → ℕ
exit_number status.Done = 0
exit_number (status.Refused line kind) = 1
exit_number (status.TraceRefused line kind) = 1
exit_number status.Usage = 2
exit_number status.ReadFault = 3
exit_number status.TraceFault = 3
exit_number status.WriteFault = 4
exit_number status.NoMemory = 5
