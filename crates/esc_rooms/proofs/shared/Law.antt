-- What each handler owes, and what it may use of the place where it stands.
use Rattle.std.proofs.Common.{◌≡◌, ◌≢◌, ◌≤◌, ◌<◌, ℕ, true, false, List, ◌∷◌}
use Rattle.esc_base.specs.declared.kind.Kind.{Kind}
use Rattle.esc_base.specs.declared.event.Event.{Event}
use Rattle.esc_base.specs.Trace.{tick_of}
use Rattle.esc_base.specs.Numbers.{kind_number}
use Rattle.interrupt_machine.specs.Open.{due_now}
use Rattle.esc_base.specs.Flash.{Told}
use Rattle.esc_core.specs.Brain.{Brain}
use Rattle.esc_core.specs.Calls.{Answer, DeviceDid}
use Rattle.esc_core.specs.Firmware.{left_of, kind_step, kind_asked, waits_of}
use Rattle.esc_laws.specs.Nested.{IsBuilt}
use Rattle.esc_laws.specs.Asked.{IsAsked}
use Rattle.esc_laws.specs.Seen.{sees_at}
use Rattle.esc_rooms.specs.Tied.{WordTold}
use Rattle.esc_rooms.specs.World.{World, so_far, after_enter, at_time, after_outside}
use Rattle.esc_rooms.specs.Rooms.{Above, Unheld, HoldsAlone, Past, Ground, Tie, Ties, StepKeeps}

-- a kind is entered where no higher one is open or due
pub record Highest (k : Kind) (w : World) : Type 0 where
  pub shut : Above k w
  pub none : (j : Kind) → kind_number k < kind_number j → due_now (waits_of w.core) w.bank j ≡ false

-- a flash can have answered so to the calls of a step
abbrev pub Given : Kind → Brain → List Answer → Type 0
Given k c answers = (flash : Told) × ((flash' : Told) × DeviceDid (kind_asked k c answers) answers flash flash')

-- ---- where a handler stands

-- between any two steps: what all handlers share, and what ties each one to the notes
pub record AtRest (w : World) : Type 0 where
  pub ground : Ground w
  pub ties : Ties w

-- it is shut, the notes tell the gates, and no handler stands under the mask
pub record AtShut (k : Kind) (w : World) : Type 0 where
  pub rest : AtRest w
  pub told : WordTold w.core w.bank w.back
  pub unheld : Unheld w
  pub shut : left_of w.core k ≡ 0

-- it is entered: it is due, no higher kind is open or due, and all steps so far stand before now
pub record AtEntry (k : Kind) (w : World) : Type 0 where
  pub rest : AtRest w
  pub past : Past w.made w.bank.time
  pub told : WordTold w.core w.bank w.back
  pub unheld : Unheld w
  pub shut : left_of w.core k ≡ 0
  pub due : due_now (waits_of w.core) w.bank k ≡ true
  pub highest : Highest k w

-- it is the innermost one, and makes a step
pub record AtStep (k : Kind) (outer : List Kind) (w : World) : Type 0 where
  pub rest : AtRest w
  pub past : Past w.made w.bank.time
  pub above : Above k w
  pub alone : HoldsAlone k w
  pub on : (so_far w).stack ≡ k ∷ outer
  pub left : 0 < left_of w.core k

-- an event from outside stands at now, and all steps so far before it
pub record AtEvent (e : Event) (w : World) : Type 0 where
  pub rest : AtRest w
  pub past : Past w.made w.bank.time
  pub now : tick_of e ≡ w.bank.time

-- ---- what it owes there

pub record HandlerLaw (k : Kind) : Type 0 where
  -- where the notes call for it, it is due
  pub called : (w : World) → AtShut k w → sees_at w.loaded w.trace (so_far w) w.back w.bank.time k ≡ true → due_now (waits_of w.core) w.bank k ≡ true
  -- only a handler that is built comes due, and it does where it is called
  pub asked : (w : World) → AtEntry k w → IsBuilt k × IsAsked w.loaded w.trace (so_far w) w.back w.bank.time k
  -- its entry ties it, and leaves the ties of the others
  pub entered : (w : World) → AtEntry k w → Tie k (after_enter k w)
  pub beside : (w : World) → AtEntry k w → (j : Kind) → j ≢ k → Tie j (after_enter k w)
  -- each of its steps, the return too, whatever a flash can answer
  pub steps : (w : World) (answers : List Answer) (outer : List Kind) → Given k w.core answers → AtStep k outer w
      → StepKeeps k outer w (kind_step k answers w.core w.bank)
  -- its tie stands as time goes on, and at an event
  pub later : (w : World) (u : ℕ) → w.bank.time ≤ u → u < 2147483648 → AtRest w → Tie k (at_time w u)
  pub outside : (w : World) (e : Event) → AtEvent e w → Tie k (after_outside w e)
