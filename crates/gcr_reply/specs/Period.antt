-- A period in microseconds as a word of 16 bits: three of exponent, nine of mantissa, and a check nibble.
use Rattle.std.specs.Prelude.{◌≡◌, ℕ, ◌+◌, ◌*◌, ◌/◌, ◌^◌, ◌<◌, ◌≤◌, nat_le, Option, Some, None, MatchBool, fold, bit_xor}
use Rattle.gcr_reply.specs.Line.{nibbles}

-- the least exponent that makes the quotient at most 511, which nine bits hold
pub record IsExponent (e period : ℕ) : Type 0 where
  pub fits : period / 2 ^ e ≤ 511
  pub least : (d : ℕ) → d < e → 511 < period / 2 ^ d

-- twelve bits tell a period by its exponent and its quotient
pub record IsShort (twelve period : ℕ) : Type 0 where
  pub exponent : ℕ
  pub is_least : IsExponent exponent period
  pub value : twelve ≡ exponent * 512 + period / 2 ^ exponent

-- Twelve ones tell that there is no period. They tell one of at least 65408 too, the first whose own bits would be these.
abbrev pub Tells : ℕ → Option ℕ → Type 0
Tells twelve None = twelve ≡ 0xFFF
Tells twelve (Some period) = MatchBool (nat_le 65408 period) (twelve ≡ 0xFFF) (IsShort twelve period)

-- the word for a period: its first three nibbles tell it, and the exclusive or of all four is 15
pub record IsPayload (word : ℕ) (period : Option ℕ) : Type 0 where
  pub tells : Tells (word / 16) period
  pub check : fold bit_xor 0 (nibbles word) ≡ 15
