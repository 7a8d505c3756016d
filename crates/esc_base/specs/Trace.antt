-- A trace is a list of events with an end; what its events say of the signal line.
use Rattle.std.specs.Prelude.{ℕ, Bool, true, false, not, if◌then◌else◌, List, [], ◌∷◌, ◌++◌}
use Rattle.std.specs.List.{fold}
use Rattle.esc_base.specs.declared.signal.Edge.{Edge}
use Rattle.esc_base.specs.declared.event.Event.{Event}
use Rattle.esc_base.specs.declared.event.Event.TheVariants as event

-- the tick of an event
abbrev pub tick_of : Event → ℕ
tick_of (event.Edge t level) = t.0
tick_of (event.Comp t level) = t.0
tick_of (event.Serial t byte) = t.0
tick_of (event.Stall t n) = t.0

abbrev pub differ : Bool → Bool → Bool
differ true level = not level
differ false level = level

-- the line's level after some events, and its changes in order
pub record Line : Type 0 where
  pub level : Bool
  pub edges : List Edge

-- a level that is another one than before is a change of the line
abbrev pub line_next : Line → Event → Line
line_next l (event.Edge t level) =
    record { level = level; edges = if differ l.level level then l.edges ++ record { t = t; level = level } ∷ [] else l.edges }
line_next l (event.Comp t level) = l
line_next l (event.Serial t byte) = l
line_next l (event.Stall t n) = l

-- the line after all events; its level is 0 at the start
unfoldable pub line : List Event → Line
line trace = fold line_next (record { level = false; edges = [] }) trace
