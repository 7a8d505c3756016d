-- The sixteen bits of a DShot frame, the most significant first: eleven of value, the telemetry bit, four of checksum.
use Rattle.std.specs.Prelude.{ℕ, ◌+◌, ◌*◌, ◌^◌, Bool, true, false, not, ◌&&◌, if◌then◌else◌, List, [], ◌∷◌, length, take, drop, map, slice_index_or}
use Rattle.esc_base.specs.declared.signal.Frame.{Frame}
use Rattle.esc_base.specs.declared.signal.Verdict.{Verdict}
use Rattle.esc_base.specs.declared.signal.Verdict.TheVariants.{Good, Bad}
use Rattle.esc_base.specs.declared.signal.Why.TheVariants.{Check}
use Rattle.esc_base.specs.Bits.{digit, xor}

-- the number that bits stand for
unfoldable pub number : List Bool → ℕ
number [] = 0
number (b ∷ bits) = digit b * 2 ^ length bits + number bits

-- the exclusive or of two lists of bits, bit by bit
abbrev pub each_xor : List Bool → List Bool → List Bool
each_xor (a ∷ xs) (b ∷ ys) = xor a b ∷ each_xor xs ys
each_xor _ _ = []

-- two lists of bits are equal
abbrev pub is_same : List Bool → List Bool → Bool
is_same [] [] = true
is_same (a ∷ xs) (b ∷ ys) = not (xor a b) && is_same xs ys
is_same _ _ = false

-- the exclusive or of the three nibbles of twelve bits
abbrev pub sum_of : List Bool → List Bool
sum_of upper = each_xor (each_xor (take 4 upper) (take 4 (drop 4 upper))) (take 4 (drop 8 upper))

-- the checksum of the upper twelve bits: that exclusive or, or in an inverted frame its complement
abbrev pub checksum_of : Bool → List Bool → List Bool
checksum_of inverted upper = if inverted then map not (sum_of upper) else sum_of upper

abbrev pub frame_of : List Bool → Frame
frame_of bits = record { value = number (take 11 bits); telemetry = slice_index_or bits 11 false }

-- what sixteen bits say: a frame, if their last four are its checksum
unfoldable pub reading : Bool → List Bool → Verdict
reading inverted bits =
    if is_same (drop 12 bits) (checksum_of inverted (take 12 bits)) then Good (frame_of bits) else Bad Check
