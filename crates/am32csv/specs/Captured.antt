-- What was written of a capture.
use Rattle.std.specs.Prelude.{◌≡◌, ℕ, Bool, false, not, List, [], ◌∷◌, Option}
use Rattle.esc_base.specs.declared.event.Event.{Event}
use Rattle.esc_base.specs.declared.event.Event.TheVariants as event
use Rattle.trace_tools.specs.Written.{HasWritten, IsTrace}
use Rattle.am32csv.specs.declared.capture.Capture.{Capture}

-- each event is a change of the signal line, which has this level before
abbrev pub AreChanges : Bool → List Event → Type 0
AreChanges level [] = Unit {0}
AreChanges level (event.Edge t changed ∷ events) = (changed ≡ not level) × AreChanges changed events
AreChanges level (event.Comp t changed ∷ events) = ⊥
AreChanges level (event.Serial t byte ∷ events) = ⊥
AreChanges level (event.Stall t n ∷ events) = ⊥

-- the line's level behind some events, where it has this level before
abbrev pub level_behind : Bool → List Event → Bool
level_behind level [] = level
level_behind level (event.Edge t changed ∷ events) = level_behind changed events
level_behind level (event.Comp t changed ∷ events) = level_behind level events
level_behind level (event.Serial t byte ∷ events) = level_behind level events
level_behind level (event.Stall t n ∷ events) = level_behind level events

-- a trace that the reader accepts was appended, and each of its events is a change of the line
pub record IsCapture (first now : Option (List ℕ)) : Type 0 where
  pub events : List Event
  pub end : ℕ
  pub accepted : IsTrace first now events end
  pub changes : AreChanges false events

-- the same up to a row
pub record Keeps (c : Capture) (first now : Option (List ℕ)) : Type 0 where
  pub events : List Event
  pub written : HasWritten c.writer first now events
  pub changes : AreChanges false events
  pub level : c.written ≡ level_behind false events

abbrev pub GoesOn : Capture → Option (List ℕ) → Capture → Option (List ℕ) → Type 0
GoesOn c before d after = (first : Option (List ℕ)) → Keeps c first before → Keeps d first after

abbrev pub Ends : Capture → Option (List ℕ) → Option (List ℕ) → Type 0
Ends c before after = (first : Option (List ℕ)) → Keeps c first before → IsCapture first after
