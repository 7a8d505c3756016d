-- The burst of a window, over the whole list of the line's edges.
use Rattle.std.specs.Prelude.{ℕ, ◌+◌, Bool, not, ◌&&◌, ◌||◌, ◌==◌, nat_lt, nat_le, if◌then◌else◌, List, [], ◌∷◌, ◌++◌, length, Option, Some, None}
use Rattle.esc_base.specs.declared.signal.Edge.{Edge}
use Rattle.esc_base.specs.declared.signal.Mode.{Mode}
use Rattle.edge_capture.specs.Modes.{numbers, most, limit}
use Rattle.edge_capture.specs.Edges.{last_at}

-- How long a window that has heard these edges waits for a further one: the idle limit, or not at all after the last
-- edge allowed.
abbrev pub wait : Mode → List Edge → ℕ
wait m heard = if nat_le (most m) (length heard) then 0 else limit m heard

-- The tick at which a window of this mode that has heard these edges closes: that of the last edge allowed, or the last
-- heard edge's plus the idle limit. A window without an edge doesn't close.
abbrev pub close_of : Mode → List Edge → Option ℕ
close_of m heard = if length heard == 0 then None else Some (last_at heard + wait m heard)

-- a window of this mode that has heard these edges is closed at t
abbrev pub is_closed : Mode → List Edge → ℕ → Bool
is_closed m heard t = not (length heard == 0) && nat_le (last_at heard + wait m heard) t

-- a falling edge before the first rising one, in a mode that waits for that
abbrev pub comes_early : Mode → List Edge → Edge → Bool
comes_early m heard e = (length heard == 0) && (not (numbers m).falling_first && not e.level)

-- the window that opened at w and has heard these edges hears this one
abbrev pub hears : Mode → ℕ → List Edge → Edge → Bool
hears m w heard e = nat_lt w e.t.0 && not (is_closed m heard e.t.0) && not (comes_early m heard e)

-- an edge that the window passes over: one not after its opening, or a falling one before the first that it waits for
abbrev pub is_left_out : Mode → ℕ → List Edge → Edge → Bool
is_left_out m w heard e = nat_le e.t.0 w || comes_early m heard e

-- what a window that has heard some edges hears further of these, up to and without the first one after its close
abbrev pub until_deaf : Mode → ℕ → List Edge → List Edge → List Edge
until_deaf m w heard [] = heard
until_deaf m w heard (e ∷ rest) =
    if hears m w heard e then until_deaf m w (heard ++ e ∷ []) rest
    else (if is_left_out m w heard e then until_deaf m w heard rest else heard)

-- What the window that opened at w in this mode hears of the line's edges: all of them in their order, but those that it
-- passes over, up to and without the first one that comes after its close.
unfoldable pub burst : List Edge → ℕ → Mode → List Edge
burst edges w m = until_deaf m w [] edges

-- the tick at which that window closes
abbrev pub close : List Edge → ℕ → Mode → Option ℕ
close edges w m = close_of m (burst edges w m)
