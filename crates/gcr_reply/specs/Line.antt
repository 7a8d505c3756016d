-- A word of 16 bits on the line. The line's 21 bits are a number, the first of them its most significant bit.
use Rattle.std.specs.Prelude.{◌≡◌, ℕ, zero, suc, ◌/◌, ◌%◌, ◌^◌, ◌<◌, ◌==◌, if◌then◌else◌, List, [], ◌∷◌, slice_index, flat_map}

-- the lowest k bits of a number, the most significant of them first
unfoldable pub bits_of : ℕ → ℕ → List ℕ
bits_of zero n = []
bits_of (suc k) n = n / 2 ^ k % 2 ∷ bits_of k n

-- 1 where a bit differs from the one before it, else 0
abbrev pub changes : List ℕ → List ℕ
changes (a ∷ b ∷ rest) = (if a == b then 0 else 1) ∷ changes (b ∷ rest)
changes _ = []

-- the GCR table: the five bits that stand for each nibble
abbrev pub table : List ℕ
table = 0x19 ∷ 0x1B ∷ 0x12 ∷ 0x13 ∷ 0x1D ∷ 0x15 ∷ 0x16 ∷ 0x17 ∷ 0x1A ∷ 0x09 ∷ 0x0A ∷ 0x0B ∷ 0x1E ∷ 0x0D ∷ 0x0E ∷ 0x0F ∷ []

-- the four nibbles of a word, the most significant first
abbrev pub nibbles : ℕ → List ℕ
nibbles word = word / 4096 % 16 ∷ word / 256 % 16 ∷ word / 16 % 16 ∷ word % 16 ∷ []

-- the twenty bits that stand for a word: a group of five for each nibble
abbrev pub groups_of : ℕ → List ℕ
groups_of word = flat_map (λ nibble. bits_of 5 (slice_index table nibble)) (nibbles word)

-- the line starts low, and its twenty changes are these bits
pub record IsLine (bits : ℕ) (gcr : List ℕ) : Type 0 where
  pub of_21_bits : bits < 2 ^ 21
  pub starts_low : slice_index (bits_of 21 bits) 0 ≡ 0
  pub changes_are : changes (bits_of 21 bits) ≡ gcr

-- the line carries a word: its changes are the word's groups
pub record Carries (bits word : ℕ) : Type 0 where
  pub of_16_bits : word < 2 ^ 16
  pub line : IsLine bits (groups_of word)
