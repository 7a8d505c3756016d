-- The levels outside the controller after some events of a trace: of each the newest, and low before the first.
use Rattle.std.specs.Prelude.{false, List}
use Rattle.std.specs.List.{fold}
use Rattle.esc_base.specs.declared.event.Event.{Event}
use Rattle.esc_base.specs.declared.event.Event.TheVariants as event
use Rattle.am32wave.specs.declared.levels.Levels.{Levels}

abbrev pub with_event : Levels → Event → Levels
with_event l (event.Edge t level) = record { line = level; comparator = l.comparator }
with_event l (event.Comp t level) = record { line = l.line; comparator = level }
with_event l (event.Serial t byte) = l
with_event l (event.Stall t n) = l

abbrev pub levels : List Event → Levels
levels events = fold with_event (record { line = false; comparator = false }) events
