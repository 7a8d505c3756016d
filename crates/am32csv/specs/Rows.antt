-- What the rows of a capture say, as changes of the signal line.
use Rattle.std.specs.Prelude.{◌≡◌, ℕ, ℤ, pos, ◌-ℤ◌, ◌*◌, Bool, if◌then◌else◌, List, [], ◌∷◌, ◌++◌, Option, unwrap_or}
use mathlib.Core.Bool.{beq}
use Rattle.esc_base.specs.declared.tick.Tick.{Tick}
use Rattle.esc_base.specs.declared.event.Event.{Event}
use Rattle.esc_base.specs.declared.event.Event.TheVariants as event
use Rattle.trace_tools.specs.Nearest.{IsNearest}
use Rattle.trace_tools.specs.Written.{HasWritten}
use Rattle.am32csv.specs.declared.capture.Capture.{Capture}
use Rattle.am32csv.specs.declared.layout.Clock.{Clock}
use Rattle.am32csv.specs.Clock.{parts_of, tick_parts}

-- a time's tick, where another time has tick 0: the nearest one
pub record IsTickOf (clock : Clock) (zeroth stamp : ℤ) (t : ℕ) : Type 0 where
  pub parts : ℕ
  pub later : stamp -ℤ zeroth ≡ pos parts
  pub nearest : IsNearest t (parts * tick_parts clock) (parts_of clock)

-- some events and a level more: an edge, where the line had the other level before
abbrev pub with_level : List Event → Bool → Tick → Bool → List Event
with_level events before t level = if beq level before then events else events ++ event.Edge t level ∷ []

-- the time of tick 0: that of the first row, which is this one where none was taken
abbrev pub zeroth : Capture → ℤ → ℤ
zeroth c stamp = unwrap_or c.first stamp

-- a row's level was written at its tick
pub record WritesRow (c : Capture) (before : Option (List ℕ)) (stamp : ℤ) (level : Bool) (d : Capture) (after : Option (List ℕ)) : Type 0 where
  pub t : Tick
  pub is_tick : IsTickOf c.layout.clock (zeroth c stamp) stamp t.0
  pub wrote : (first : Option (List ℕ)) (events : List Event) → HasWritten c.writer first before events
      → HasWritten d.writer first after (with_level events c.written t level)
