-- A law, or what a law is said with: what `Legal` means rests on this.
-- How activations nest, and which notes belong to which activation.
use Rattle.std.specs.Prelude.{◌≡◌, ◌<◌, ◌⊎◌, ℕ, true, List, reverse, Option, Some, None, All}
use Rattle.esc_base.specs.declared.kind.Kind.{Kind}
use Rattle.esc_base.specs.declared.kind.Kind.TheVariants as kind
use Rattle.esc_base.specs.declared.note.Note.{Note}
use Rattle.esc_base.specs.declared.note.Note.TheVariants as note
use Rattle.esc_base.specs.Numbers.{kind_number}
use Rattle.esc_base.specs.Journal.{Each}
use Rattle.interrupt_machine.specs.declared.nest.Nest.{Nest}
use Rattle.interrupt_machine.specs.declared.nest.Nest.TheVariants.{One, Full}
use Rattle.interrupt_machine.specs.Open.{kind_of, innermost}
use Rattle.esc_laws.specs.Place.{Place, place}
use Rattle.esc_laws.specs.Calls.{HasTurned, HasCaughtUp}

-- an entered kind has a higher number than each open one; with nest 1 none above MAIN is open
abbrev pub IsAboveAll : Nest → List Kind → ℕ → Type 0
IsAboveAll Full stack k = All (λ j. kind_number j < k) stack
IsAboveAll One stack k = All (λ j. (kind_number j ≡ 0) × (0 < k)) stack

-- the innermost open kind
abbrev pub IsIn : Kind → Place → Type 0
IsIn k p = innermost p.stack ≡ Some k

-- These kinds aren't built: no journal has an I of them. A kind leaves this list in the change that builds it, and gets its
-- row of `HasDone` there.
abbrev pub IsBuilt : Kind → Type 0
IsBuilt kind.Uart = ⊥
IsBuilt k = Unit {0}

-- a TICK that returns has one K; a CAP that returns has one F, or one W without an F; a MAIN that returns has one P; a COMM
-- that returns has one Q, or has turned a postponed low switch on. What a CMP owes, `Searched` says, which knows the comparator.
abbrev pub HasDone : ℕ → Kind → Place → List Note → Type 0
HasDone advance kind.Tick p back = p.ticks ≡ 1
HasDone advance kind.Cap p back = (p.verdicts ≡ 1) ⊎ ((p.verdicts ≡ 0) × (p.windows ≡ 1))
HasDone advance kind.Main p back = p.saves ≡ 1
HasDone advance kind.Comm p back = HasTurned back ⊎ HasCaughtUp advance back
HasDone advance kind.Pwm p back = Unit {0}
HasDone advance kind.Cmp p back = Unit {0}
HasDone advance kind.Uart p back = ⊥

-- the gate word changes in COMM, PWM and TICK
abbrev pub Switches : Kind → Type 0
Switches kind.Comm = Unit {0}
Switches kind.Pwm = Unit {0}
Switches kind.Tick = Unit {0}
Switches k = ⊥

abbrev pub SwitchesIn : Option Kind → Type 0
SwitchesIn None = ⊥
SwitchesIn (Some k) = Switches k

-- the rule of a note at a place, after these notes with the newest first; for this advance of the settings
abbrev pub NestRuleAt : ℕ → Nest → Place → List Note → Note → Type 0
NestRuleAt advance nest p back (note.Enter t k) = IsBuilt (kind_of k) × IsAboveAll nest p.stack k
NestRuleAt advance nest p back (note.Leave t k) = IsIn (kind_of k) p × HasDone advance (kind_of k) p back
NestRuleAt advance nest p back (note.Gate t hi lo) = SwitchesIn (innermost p.stack)
NestRuleAt advance nest p back (note.Step t s) = IsIn kind.Comm p
NestRuleAt advance nest p back (note.Cross t) = IsIn kind.Cmp p
NestRuleAt advance nest p back (note.Window t m) = IsIn kind.Cap p
NestRuleAt advance nest p back (note.Good t v q) = IsIn kind.Cap p
NestRuleAt advance nest p back (note.Detected t m) = IsIn kind.Cap p
NestRuleAt advance nest p back (note.Nothing t) = IsIn kind.Cap p
NestRuleAt advance nest p back (note.Bad t w) = IsIn kind.Cap p
NestRuleAt advance nest p back (note.Command t c) = IsIn kind.Cap p
NestRuleAt advance nest p back (note.Period t period) = IsIn kind.Cap p
NestRuleAt advance nest p back (note.Reply t s b) = IsIn kind.Cap p
NestRuleAt advance nest p back (note.Control t n s d) = IsIn kind.Tick p
NestRuleAt advance nest p back (note.Armed t) = IsIn kind.Tick p
NestRuleAt advance nest p back (note.Lost t c) = IsIn kind.Tick p
NestRuleAt advance nest p back (note.Saved t r) = IsIn kind.Main p
-- the others don't stand in a journal yet
NestRuleAt advance nest p back n = ⊥

abbrev pub NestRule : ℕ → Nest → List Note → Note → Type 0
NestRule advance nest before n = NestRuleAt advance nest (place before) (reverse before) n

-- the notes after `before` nest
abbrev pub NestedAfter : ℕ → Nest → List Note → List Note → Type 0
NestedAfter advance nest before notes = Each (NestRule advance nest) before notes
