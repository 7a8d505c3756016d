-- What contracts see of a capture: its window, what edges change of it, and which burst it holds.
use Rattle.std.specs.Prelude.{◌≡◌, ℕ, ◌+◌, Bool, true, false, ◌&&◌, ◌||◌, ◌==◌, not, nat_le, if◌then◌else◌, List, [], ◌∷◌, ◌++◌, length, Option, Some, None}
use Rattle.esc_base.specs.declared.tick.Tick.{Tick}
use Rattle.esc_base.specs.declared.signal.Edge.{Edge}
use Rattle.esc_base.specs.declared.signal.Mode.{Mode}
use Rattle.esc_base.specs.declared.signal.Mode.TheVariants.{Unknown}
use Rattle.edge_capture.specs.Modes.{most, limit}
use Rattle.edge_capture.specs.Edges.{last_at}
use Rattle.edge_capture.specs.Burst.{is_closed, hears, burst}

pub record Window : Type 0 where
  pub armed : Bool
  pub mode : Mode
  -- the tick at which it opened
  pub opened : ℕ
  -- the edges that it has heard
  pub edges : List Edge

abbrev pub unarmed : Window
unarmed = record { armed = false; mode = Unknown; opened = 0; edges = [] }

abbrev pub opened_in : Mode → ℕ → Window
opened_in mode t = record { armed = true; mode = mode; opened = t; edges = [] }

abbrev pub window_hears : Window → Edge → Bool
window_hears w e = w.armed && hears w.mode w.opened w.edges e

abbrev pub after_edge : Window → Edge → Window
after_edge w e = if window_hears w e then record w { edges = w.edges ++ e ∷ [] } else w

abbrev pub window_closed : Window → ℕ → Bool
window_closed w t = w.armed && is_closed w.mode w.edges t

-- the number of a tick, if there is one
abbrev pub number_of : Option Tick → Option ℕ
number_of None = None
number_of (Some t) = Some t.0

-- the tick at which the idle limit closes it, if no edge comes; none where it isn't armed, has no edge or has the last one allowed
abbrev pub idle_at : Window → Option Tick
idle_at w =
    if not w.armed || (length w.edges == 0) || nat_le (most w.mode) (length w.edges)
    then None
    else Some (record { 0 = last_at w.edges + limit w.mode w.edges })

-- a window was opened on a line that has had these edges, and holds what it hears of them
pub record IsHanded (w : Window) (edges : List Edge) : Type 0 where
  pub armed : w.armed ≡ true
  pub burst_is : w.edges ≡ burst edges w.opened w.mode
