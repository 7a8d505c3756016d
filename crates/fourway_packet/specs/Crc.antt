-- CRC-16 with polynomial 0x1021: the remainder of the bits, read as a polynomial, on division by x^16 + x^12 + x^5 + 1.
use Rattle.std.specs.Prelude.{◌≡◌, ◌<◌, ℕ, zero, suc, ◌*◌, ◌+◌, ◌/◌, ◌%◌, ◌^◌, Bool, true, false, not, ◌==◌, if◌then◌else◌, List, [], ◌∷◌, bit_xor}
use Rattle.std.specs.List.{fold, flat_map}
use Rattle.esc_base.specs.Bits.{digit, xor, low_bits}

-- the CRC after one more bit
abbrev pub shifted : ℕ → Bool → ℕ
shifted crc bit = if xor (crc / 2 ^ 15 == 1) bit then bit_xor (crc * 2 % 2 ^ 16) 4129 else crc * 2 % 2 ^ 16

-- the CRC after the eight bits of one more byte
unfoldable pub shifted_by_byte : ℕ → ℕ → ℕ
shifted_by_byte crc byte = fold shifted crc (low_bits 8 byte)

-- the CRC of these bytes, from 0 on
unfoldable pub crc_of : List ℕ → ℕ
crc_of bytes = fold shifted_by_byte 0 bytes

-- ---- the same by division of polynomials, whose coefficients are the bits of a number

-- the number that bits stand for, the most significant first
unfoldable pub number : List Bool → ℕ
number bits = fold (λ n bit. n * 2 + digit bit) 0 bits

-- a polynomial times x^16 + x^12 + x^5 + 1, multiplied without carries
unfoldable pub product : List Bool → ℕ
product bits = fold (λ n bit. bit_xor (n * 2) (if bit then 69665 else 0)) 0 bits

-- this is the remainder of the bits, followed by sixteen zeros, on division by the polynomial
pub record IsRemainder (bits : List Bool) (remainder : ℕ) : Type 0 where
  pub below : remainder < 2 ^ 16
  pub quotient : List Bool
  pub divided : number bits * 2 ^ 16 ≡ bit_xor (product quotient) remainder

abbrev pub bits_of : List ℕ → List Bool
bits_of bytes = flat_map (low_bits 8) bytes
