-- What a status says, as a text and as a number.
use Rattle.std.specs.Prelude.{ℕ, List, [], ◌∷◌, ◌++◌, codes}
use Rattle.std.specs.Fmt.{decimal}
use Rattle.trace_text.specs.declared.item.Refusal.{Refusal}
use Rattle.trace_text.specs.declared.item.Refusal.TheVariants as refusal
use Rattle.am32sim.specs.declared.status.Status.{Status}
use Rattle.am32sim.specs.declared.status.Status.TheVariants as status

abbrev pub refusal_name : Refusal → List ℕ
refusal_name refusal.TooLong = codes "TooLong"
refusal_name refusal.BadTime = codes "BadTime"
refusal_name refusal.TimeBack = codes "TimeBack"
refusal_name refusal.TooLate = codes "TooLate"
refusal_name refusal.BadKind = codes "BadKind"
refusal_name refusal.BadValue = codes "BadValue"
refusal_name refusal.Trailing = codes "Trailing"
refusal_name refusal.TooClose = codes "TooClose"
refusal_name refusal.NoEnd = codes "NoEnd"
refusal_name refusal.AfterEnd = codes "AfterEnd"
refusal_name refusal.TooMany = codes "TooMany"

-- the line on standard error, with its line feed
abbrev pub status_bytes : Status → List ℕ
status_bytes status.Done = []
status_bytes (status.Refused line kind) = codes "am32sim: line " ++ decimal line ++ codes ": " ++ refusal_name kind ++ 10 ∷ []
status_bytes status.Usage = codes "am32sim: usage\n"
status_bytes status.ReadFault = codes "am32sim: read fault\n"
status_bytes status.WriteFault = codes "am32sim: write fault\n"
status_bytes status.NoMemory = codes "am32sim: no memory\n"
status_bytes status.AttachFault = codes "am32sim: flash fault\n"

-- the exit status
abbrev pub exit_number : Status → ℕ
exit_number status.Done = 0
exit_number (status.Refused line kind) = 1
exit_number status.Usage = 2
exit_number status.ReadFault = 3
exit_number status.WriteFault = 4
exit_number status.NoMemory = 5
exit_number status.AttachFault = 6
