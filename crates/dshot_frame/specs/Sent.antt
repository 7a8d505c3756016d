-- A frame on the line, as its sender makes it: the exact edges of its word.
use Rattle.std.specs.Prelude.{ℕ, ◌+◌, ◌*◌, ◌/◌, ◌<◌, ◌≤◌, ◌≡◌, Bool, not, if◌then◌else◌, List, [], ◌∷◌}
use Rattle.std.specs.List.{AllZip}
use Rattle.esc_base.specs.declared.signal.Edge.{Edge}
use Rattle.esc_base.specs.declared.signal.Mode.{Mode}
use Rattle.edge_capture.specs.Modes.{numbers}
use Rattle.esc_base.specs.Bits.{low_bits}

-- how long a bit is active: three eighths of it for a zero, three quarters for a one
abbrev pub active_width : ℕ → Bool → ℕ
active_width bit one = if one then 3 * bit / 4 else 3 * bit / 8

-- the edges of these bits, one after the other, the first of which starts at s
abbrev pub edges_from : ℕ → Bool → ℕ → List Bool → List Edge
edges_from bit inverted s [] = []
edges_from bit inverted s (one ∷ bits) =
    record { t = record { 0 = s }; level = not inverted }
    ∷ record { t = record { 0 = s + active_width bit one }; level = inverted }
    ∷ edges_from bit inverted (s + bit) bits

-- the exact edges of a word that is sent at s
abbrev pub sent : Mode → ℕ → ℕ → List Edge
sent m s word = edges_from (numbers m).bit (numbers m).inverted s (low_bits 16 word)

-- the moved edge goes to the same level as the exact one, at most d ticks earlier or later
pub record IsNear (d : ℕ) (exact moved : Edge) : Type 0 where
  pub level_is : moved.level ≡ exact.level
  pub not_early : exact.t.0 ≤ moved.t.0 + d
  pub not_late : moved.t.0 ≤ exact.t.0 + d

-- the same edges, each moved by at most d ticks
abbrev pub IsMoved : ℕ → List Edge → List Edge → Type 0
IsMoved d exact moved = AllZip (IsNear d) exact moved

-- a mode whose bursts are frames
abbrev pub HasFrames : Mode → Type 0
HasFrames m = 0 < (numbers m).bit
