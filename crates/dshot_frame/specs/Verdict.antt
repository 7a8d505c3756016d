-- The verdict on a burst as a DShot frame, over the whole list of its edges. Bit i starts at edge 2i, and its active
-- part ends at edge 2i + 1.
use Rattle.std.specs.Prelude.{ℕ, ◌-◌, ◌*◌, ◌/◌, Bool, not, ◌&&◌, ◌||◌, ◌==◌, nat_lt, nat_le, if◌then◌else◌, List, [], ◌∷◌, length, map, slice_index}
use Rattle.std.specs.List.{list_all}
use Rattle.esc_base.specs.declared.signal.Edge.{Edge}
use Rattle.esc_base.specs.declared.signal.Mode.{Mode}
use Rattle.esc_base.specs.declared.signal.Verdict.{Verdict}
use Rattle.esc_base.specs.declared.signal.Verdict.TheVariants.{Bad}
use Rattle.esc_base.specs.declared.signal.Why.TheVariants.{Count, Polarity, Span, Width}
use Rattle.edge_capture.specs.Edges.{edge_at}
use Rattle.edge_capture.specs.Modes.{numbers}
use Rattle.esc_base.specs.Bits.{xor}
use Rattle.dshot_frame.specs.Bits.{reading}

-- where each bit starts
abbrev pub starts : List Edge → List ℕ
starts (e ∷ f ∷ rest) = e.t.0 ∷ starts rest
starts _ = []

-- how long each bit is active
abbrev pub widths : List Edge → List ℕ
widths (e ∷ f ∷ rest) = (f.t.0 - e.t.0) ∷ widths rest
widths _ = []

-- the distance from each number to the next
abbrev pub steps : List ℕ → List ℕ
steps (a ∷ b ∷ rest) = (b - a) ∷ steps (b ∷ rest)
steps _ = []

abbrev pub is_within : ℕ → ℕ → ℕ → Bool
is_within low high n = nat_le low n && nat_le n high

-- the tolerances, at a bit of this length: for the distance from the first bit's start to the last one's,
abbrev pub is_span : ℕ → ℕ → Bool
is_span bit n = is_within (105 * bit / 8) (135 * bit / 8) n

-- for an active part,
abbrev pub is_width : ℕ → ℕ → Bool
is_width bit n = is_within (bit / 8) (15 * bit / 16) n

-- and for the distance of two bit starts in a row
abbrev pub is_step : ℕ → ℕ → Bool
is_step bit n = is_within (3 * bit / 4) (5 * bit / 4) n

-- a bit is one where its active part is more than half a bit
abbrev pub is_one : ℕ → ℕ → Bool
is_one bit n = nat_lt (bit / 2) n

abbrev pub bits_of : ℕ → List Edge → List Bool
bits_of bit edges = map (is_one bit) (widths edges)

-- the distance from the first edge to the 31st
abbrev pub span : List Edge → ℕ
span edges = (edge_at edges 30).t.0 - (edge_at edges 0).t.0

-- the first edge goes to the active level, high or, inverted, low
abbrev pub is_polar : Bool → List Edge → Bool
is_polar inverted edges = xor inverted (edge_at edges 0).level

-- each active part and each distance of two bit starts is within tolerance
abbrev pub is_timely : ℕ → List Edge → Bool
is_timely bit edges = list_all (is_width bit) (widths edges) && list_all (is_step bit) (steps (starts edges))

-- those of bit i are: its active part, and its distance from the bit before
abbrev pub is_timely_at : ℕ → List Edge → ℕ → Bool
is_timely_at bit edges i =
    is_width bit (slice_index (widths edges) i) && ((i == 0) || is_step bit (slice_index (steps (starts edges)) (i - 1)))

-- the first fault that applies, else what the bits say
abbrev pub verdict_with : ℕ → Bool → List Edge → Verdict
verdict_with bit inverted edges =
    if not (length edges == 32) then Bad Count
    else if not (is_polar inverted edges) then Bad Polarity
    else if not (is_span bit (span edges)) then Bad Span
    else if not (is_timely bit edges) then Bad Width
    else reading inverted (bits_of bit edges)

abbrev pub verdict_of : Mode → List Edge → Verdict
verdict_of m edges = verdict_with (numbers m).bit (numbers m).inverted edges
