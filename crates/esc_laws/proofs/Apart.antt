-- The legs of a sector's pair are two.
use Rattle.std.proofs.Common.{◌≡◌, ◌≤◌, ◌<◌, ℕ, zero, suc, arith}
use Rattle.commutation.specs.Sectors.{high_of, low_of}

pub apart_legs : (s : ℕ) → 0 < s → s ≤ 6 → high_of s ≡ low_of s → ⊥
apart_legs zero p l e = absurd (omega arith)
apart_legs (suc zero) p l e = cc
apart_legs (suc (suc zero)) p l e = cc
apart_legs (suc (suc (suc zero))) p l e = cc
apart_legs (suc (suc (suc (suc zero)))) p l e = cc
apart_legs (suc (suc (suc (suc (suc zero))))) p l e = cc
apart_legs (suc (suc (suc (suc (suc (suc zero)))))) p l e = cc
apart_legs (suc (suc (suc (suc (suc (suc (suc n))))))) p l e = absurd (omega arith)
