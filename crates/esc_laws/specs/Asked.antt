-- A law, or what a law is said with: what `Legal` means rests on this.
-- No handler above MAIN is entered that isn't called: what the I of each kind owes to the notes before it and to the trace.
use Rattle.std.specs.Prelude.{◌≡◌, ◌<◌, ◌≤◌, ◌+◌, ◌/◌, ◌==◌, ℕ, zero, suc, true, if◌then◌else◌, List, [], ◌∷◌}
use Rattle.esc_base.specs.declared.kind.Kind.{Kind}
use Rattle.esc_base.specs.declared.kind.Kind.TheVariants as kind
use Rattle.esc_base.specs.declared.event.Event.{Event}
use Rattle.esc_base.specs.declared.note.Note.{Note}
use Rattle.esc_base.specs.declared.note.Note.TheVariants as note
use Rattle.esc_base.specs.Numbers.{mode_of}
use Rattle.esc_base.specs.Times.{is_reached, control_period, least_blanking, rejected_blanking}
use Rattle.esc_base.specs.Trace.{line}
use Rattle.edge_capture.specs.Burst.{close}
use Rattle.arming.specs.ControlAt.{number_at}
use Rattle.commutation.specs.Commutated.{turn_at, Turn, Turned, Crossed}
use Rattle.settings_block.specs.declared.stored.Loaded.{Loaded}
use Rattle.interrupt_machine.specs.Open.{kind_of}
use Rattle.esc_laws.specs.Calls.{calls_pwm, calls_comm}
use Rattle.esc_laws.specs.Place.{Signal, Listens, Rests, Place}
use Rattle.esc_laws.specs.Rested.{first_rested}
use Rattle.esc_laws.specs.Saves.{advance_of}

-- CAP is entered when the newest window has closed; or, while no W stands after an F, when the line has rested after the earliest
-- tick of the pause, or after the end of the reply
abbrev pub IsCapAsked : List Event → Signal → ℕ → Type 0
IsCapAsked trace (Listens w m) t = is_reached (close (line trace).edges w (mode_of m)) t ≡ true
IsCapAsked trace (Rests from latest r) t = first_rested (line trace).edges from ≤ t
IsCapAsked trace s t = ⊥

-- a drive is on, and has had a Q
abbrev pub IsInSector : Turn → Type 0
IsInSector (Turned q) = Unit {0}
IsInSector (Crossed q z) = Unit {0}
IsInSector turn = ⊥

-- the ticks of all I of CMP, the newest first; and of those since the newest Q
abbrev pub cmp_entries : List Note → List ℕ
cmp_entries [] = []
cmp_entries (note.Enter t k ∷ back) = if k == 4 then t.0 ∷ cmp_entries back else cmp_entries back
cmp_entries (n ∷ back) = cmp_entries back

abbrev pub looks_since : List Note → List ℕ
looks_since [] = []
looks_since (note.Step t s ∷ back) = []
looks_since (note.Enter t k ∷ back) = if k == 4 then t.0 ∷ looks_since back else looks_since back
looks_since (n ∷ back) = looks_since back

-- the n-th of these ticks, counted from 0, stands so long before t, if there is one
abbrev pub IsPast : ℕ → ℕ → List ℕ → ℕ → Type 0
IsPast gap n [] t = Unit {0}
IsPast gap zero (i ∷ entries) t = i + gap ≤ t
IsPast gap (suc n) (i ∷ entries) t = IsPast gap n entries t

-- CMP looks seldom, so that a comparator that chatters doesn't keep lower kinds out: of four I of CMP in a row the fourth comes 300
-- ticks after the first, and 400 where no Q stands between them
pub record LooksSeldom (back : List Note) (t : ℕ) : Type 0 where
  pub all : IsPast least_blanking 2 (cmp_entries back) t
  pub since_turn : IsPast rejected_blanking 2 (looks_since back) t

-- TICK is entered at a control tick that no K has, PWM and COMM where the notes call them, and CMP in a sector of a running drive,
-- and not too often
abbrev pub IsAsked : Loaded → List Event → Place → List Note → ℕ → Kind → Type 0
IsAsked loaded trace p back t kind.Tick = number_at back < t / control_period
IsAsked loaded trace p back t kind.Cap = IsCapAsked trace p.signal t
IsAsked loaded trace p back t kind.Pwm = calls_pwm back t ≡ true
IsAsked loaded trace p back t kind.Comm = calls_comm (advance_of loaded.settings) back t ≡ true
IsAsked loaded trace p back t kind.Cmp = IsInSector (turn_at back) × LooksSeldom back t
IsAsked loaded trace p back t kind.Main = Unit {0}
IsAsked loaded trace p back t kind.Uart = Unit {0}

abbrev pub AskRule : Loaded → List Event → Place → List Note → Note → Type 0
AskRule loaded trace p back (note.Enter t k) = IsAsked loaded trace p back t.0 (kind_of k)
AskRule loaded trace p back n = Unit {0}
