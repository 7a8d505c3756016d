-- How the program ended.
use Rattle.am32trace.specs.declared.status.Status.{Status}
use Rattle.am32trace.specs.declared.status.Status.TheVariants as status
use Rattle.am32trace.specs.declared.line_reader.LineFault.{LineFault}
use Rattle.am32trace.specs.declared.line_reader.LineFault.TheVariants as fault

-- a fact where the whole script was followed
abbrev pub OnDone : Status → Type 0 → Type 0
OnDone status.Done P = P
OnDone s P = Unit {0}

-- the script wasn't followed to its end
abbrev pub IsUnfinished : Status → Type 0
IsUnfinished status.Done = ⊥
IsUnfinished s = Unit {0}

-- a fact where the source failed
abbrev pub OnReadFault : Status → Type 0 → Type 0
OnReadFault status.ReadFault P = P
OnReadFault s P = Unit {0}

abbrev pub OnSourceFault : LineFault → Type 0 → Type 0
OnSourceFault fault.Source P = P
OnSourceFault fault.TooLong P = Unit {0}
