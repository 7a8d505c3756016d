-- Bits: their digits, their exclusive or, and those of a number.
use Rattle.std.specs.Prelude.{ℕ, ◌/◌, ◌%◌, ◌^◌, zero, suc, Bool, true, false, not, ◌==◌, List, [], ◌∷◌}

abbrev pub digit : Bool → ℕ
digit true = 1
digit false = 0

abbrev pub xor : Bool → Bool → Bool
xor true b = not b
xor false b = b

-- the lowest k bits of a number, the most significant first
unfoldable pub low_bits : ℕ → ℕ → List Bool
low_bits zero n = []
low_bits (suc k) n = (n / 2 ^ k % 2 == 1) ∷ low_bits k n
