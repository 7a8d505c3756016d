-- Machinery, and no law: how a run is proved to be legal. Nothing that `Legal` means rests on this.
-- The watch for later changes of the comparator: what ties the search to the newest activation of CMP that was entered behind the
-- newest Q, by where CMP stands.
use Rattle.std.specs.Prelude.{◌≡◌, ◌≤◌, ◌+◌, ℕ, Bool, true, false, Option, Some, None}
use Rattle.esc_base.specs.Times.{rejected_blanking}
use Rattle.zero_cross.specs.declared.phase.Phase.{Phase}
use Rattle.zero_cross.specs.declared.phase.Phase.TheVariants as phase
use Rattle.esc_core.specs.declared.state.CmpAt.{CmpAt}
use Rattle.esc_core.specs.declared.state.CmpAt.TheVariants as cmp

-- the phase's time is over 400 ticks after this one; and where a change is waited for, it has come if the level is the expected one
abbrev pub Hears : Phase → Bool → Bool → ℕ → Type 0
Hears (phase.Blank end) changed expected o = end.0 ≤ o + rejected_blanking
Hears phase.Watch changed expected o = expected ≡ true → changed ≡ true
Hears (phase.Filter end) changed expected o = end.0 ≤ o + rejected_blanking
Hears p changed expected o = Unit {0}

-- an activation that was entered behind the Q has come after the end of its blanking
abbrev pub IsLate : Phase → ℕ → Type 0
IsLate (phase.Blank end) time = end.0 ≤ time
IsLate p time = Unit {0}

-- by whether the open activation was entered behind the newest Q, and by the return of the newest such one
abbrev pub WatchAt : CmpAt → Phase → Bool → Bool → Bool → Option ℕ → ℕ → ℕ → Type 0
WatchAt cmp.Shut p changed expected looking looked time past = (o : ℕ) → looked ≡ Some o → Hears p changed expected o
WatchAt cmp.Raise p changed expected looking looked time past = looking ≡ true → IsLate p time
WatchAt cmp.Look p changed expected looking looked time past = looking ≡ true → IsLate p time
WatchAt cmp.Read p changed expected looking looked time past = Unit {0}
WatchAt cmp.Ack p changed expected looking looked time past = Unit {0}
WatchAt cmp.Commute p changed expected looking looked time past = Unit {0}
WatchAt cmp.Arm p changed expected looking looked time past = looking ≡ true → Hears p changed expected past
WatchAt cmp.Lower p changed expected looking looked time past = looking ≡ true → Hears p changed expected past
WatchAt cmp.Back p changed expected looking looked time past = looking ≡ true → Hears p changed expected past

pub record WatchTied (at : CmpAt) (p : Phase) (changed expected looking : Bool) (looked : Option ℕ) (time past : ℕ) : Type 0 where
  pub heard : WatchAt at p changed expected looking looked time past
  -- none has returned while one that was entered before the Q is open
  pub none : (at ≡ cmp.Shut → ⊥) → looking ≡ false → looked ≡ None
