-- The order of the sectors.
use Rattle.std.proofs.Common.{◌≤◌, ℕ, zero, suc, Bool, true, false, inl, inr, refl, arith}
use Rattle.std.proofs.lemmas.Bool.Decides.{nat_tests}
use Rattle.commutation.specs.Sectors.{next_sector, KeepsALeg}

-- the next sector is one of the six
pub next_within : (s : ℕ) (forward : Bool) → s ≤ 6 → (1 ≤ next_sector s forward) × (next_sector s forward ≤ 6)
next_within s true h = (grind (arith, nat_tests), grind (arith, nat_tests))
next_within s false h = (grind (arith, nat_tests), grind (arith, nat_tests))

-- and keeps one leg where it is
pub next_keeps : (s : ℕ) (forward : Bool) → 1 ≤ s → s ≤ 6 → KeepsALeg s (next_sector s forward)
next_keeps zero forward l h = absurd (omega arith)
next_keeps (suc zero) true l h = (inr refl, (λ e. cc, λ e. cc))
next_keeps (suc zero) false l h = (inl refl, (λ e. cc, λ e. cc))
next_keeps (suc (suc zero)) true l h = (inl refl, (λ e. cc, λ e. cc))
next_keeps (suc (suc zero)) false l h = (inr refl, (λ e. cc, λ e. cc))
next_keeps (suc (suc (suc zero))) true l h = (inr refl, (λ e. cc, λ e. cc))
next_keeps (suc (suc (suc zero))) false l h = (inl refl, (λ e. cc, λ e. cc))
next_keeps (suc (suc (suc (suc zero)))) true l h = (inl refl, (λ e. cc, λ e. cc))
next_keeps (suc (suc (suc (suc zero)))) false l h = (inr refl, (λ e. cc, λ e. cc))
next_keeps (suc (suc (suc (suc (suc zero))))) true l h = (inr refl, (λ e. cc, λ e. cc))
next_keeps (suc (suc (suc (suc (suc zero))))) false l h = (inl refl, (λ e. cc, λ e. cc))
next_keeps (suc (suc (suc (suc (suc (suc zero)))))) true l h = (inl refl, (λ e. cc, λ e. cc))
next_keeps (suc (suc (suc (suc (suc (suc zero)))))) false l h = (inr refl, (λ e. cc, λ e. cc))
next_keeps s forward l h = absurd (omega arith)
