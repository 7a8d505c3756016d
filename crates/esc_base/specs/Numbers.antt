-- The numbers under which a journal shows times, kinds, modes, refusals and causes.
use Rattle.std.specs.Prelude.{ℕ, Bool, ◌==◌, if◌then◌else◌}
use Rattle.esc_base.specs.declared.tick.Tick.{Tick}
use Rattle.esc_base.specs.declared.kind.Kind.{Kind}
use Rattle.esc_base.specs.declared.kind.Kind.TheVariants as kind
use Rattle.esc_base.specs.declared.signal.Mode.{Mode}
use Rattle.esc_base.specs.declared.signal.Mode.TheVariants as mode
use Rattle.esc_base.specs.declared.signal.Why.{Why}
use Rattle.esc_base.specs.declared.signal.Why.TheVariants as why
use Rattle.esc_base.specs.declared.note.Cause.{Cause}
use Rattle.esc_base.specs.declared.note.Cause.TheVariants as cause

-- the priority of a kind
abbrev pub kind_number : Kind → ℕ
kind_number kind.Main = 0
kind_number kind.Uart = 1
kind_number kind.Tick = 2
kind_number kind.Cap = 3
kind_number kind.Cmp = 4
kind_number kind.Pwm = 5
kind_number kind.Comm = 6

abbrev pub mode_number : Mode → ℕ
mode_number mode.Unknown = 0
mode_number mode.D300 = 1
mode_number mode.D600 = 2
mode_number mode.D300Inv = 3
mode_number mode.D600Inv = 4
mode_number mode.Servo = 5

-- the mode with a number
abbrev pub mode_of : ℕ → Mode
mode_of m =
    if m == 1 then mode.D300
    else if m == 2 then mode.D600
    else if m == 3 then mode.D300Inv
    else if m == 4 then mode.D600Inv
    else if m == 5 then mode.Servo
    else mode.Unknown

abbrev pub why_number : Why → ℕ
why_number why.Count = 1
why_number why.Polarity = 2
why_number why.Span = 3
why_number why.Width = 4
why_number why.Check = 5

abbrev pub cause_number : Cause → ℕ
cause_number cause.Timeout = 0
cause_number cause.Stuck = 1
cause_number cause.Fuse = 2

-- a time as a note has it
abbrev pub as_tick : ℕ → Tick
as_tick t = record { 0 = t }

-- what is so as 1, and what isn't as 0
abbrev pub bit_of : Bool → ℕ
bit_of is_so = if is_so then 1 else 0
