-- The reply that tells a period.
use Rattle.std.specs.Prelude.{ℕ, zero, suc, ◌+◌, ◌*◌, ◌/◌, ◌%◌, ◌^◌, nat_le, if◌then◌else◌, Option, Some, None, fold, bit_xor, slice_index}
use Rattle.gcr_reply.specs.Line.{table, nibbles, Carries}
use Rattle.gcr_reply.specs.Period.{IsPayload}

-- these bits of the line tell this period: they carry a word for it
pub record ReplyBits (bits : ℕ) (period : Option ℕ) : Type 0 where
  pub word : ℕ
  pub carried : Carries bits word
  pub payload : IsPayload word period

-- ---- the reply as it is made: the one number that meets `ReplyBits`

-- the first of the k exponents from e on that makes the quotient at most 511, else the one after them
abbrev pub first_fit : ℕ → ℕ → ℕ → ℕ
first_fit zero e period = e
first_fit (suc k) e period = if nat_le (period / 2 ^ e) 511 then e else first_fit k (suc e) period

abbrev pub short_of : ℕ → ℕ → ℕ
short_of e period = e * 512 + period / 2 ^ e

abbrev pub twelve_of : Option ℕ → ℕ
twelve_of None = 0xFFF
twelve_of (Some period) = if nat_le 65408 period then 0xFFF else short_of (first_fit 7 0 period) period

-- the check nibble, which makes the exclusive or of all four nibbles 15
abbrev pub check_of : ℕ → ℕ
check_of twelve = bit_xor (bit_xor (bit_xor (twelve % 16) (twelve / 16 % 16)) (twelve / 256 % 16)) 15

-- the word for a period
abbrev pub word_of : Option ℕ → ℕ
word_of period = twelve_of period * 16 + check_of (twelve_of period)

-- the word's groups of five bits, one after the other, as a number
abbrev pub gcr_of : ℕ → ℕ
gcr_of word = fold (λ bits nibble. bits * 32 + slice_index table nibble) 0 (nibbles word)

-- the line's levels after its low start, for k GCR bits: each is the exclusive or of all GCR bits up to its own
unfoldable pub line_of : ℕ → ℕ → ℕ
line_of zero gcr = 0
line_of (suc k) gcr = bit_xor gcr (line_of k (gcr / 2))

-- the reply to a period
unfoldable pub reply_of : Option ℕ → ℕ
reply_of period = line_of 20 (gcr_of (word_of period))
