-- The bits of a number, as they are printed.
use Rattle.std.proofs.Common.{◌≡◌, ℕ, suc, ◌+◌, ◌/◌, ◌%◌, ◌∷◌, [], ◌++◌, refl, ◌∙◌, ap, arith}
use Rattle.trace_text.specs.Text.{bits}

pub no_bits : (b : ℕ) → bits 0 b ≡ []
unfolding bits
no_bits b = refl

pub bits_suc : (k b : ℕ) → bits (suc k) b ≡ bits k (b / 2) ++ (48 + b % 2) ∷ []
unfolding bits
bits_suc k b = refl

pub bits_more : (k m b : ℕ) → k ≡ m + 1 → bits k b ≡ bits m (b / 2) ++ (48 + b % 2) ∷ []
bits_more k m b e = ap (λ (n : ℕ). bits n b) (omega arith) ∙ bits_suc m b
