-- Powers of ten.
use Rattle.std.proofs.Common.{◌≤◌, ℕ, ◌^◌, arith}
use Rattle.std.proofs.Math.Nat.{pow-le-pow_right, one-le-pow}

pub pow_some : (n : ℕ) → 1 ≤ 10 ^ n
pow_some n = one-le-pow n 10 (omega arith)

pub pow_most : (n : ℕ) → n ≤ 15 → 10 ^ n ≤ 1000000000000000
pow_most n le = pow-le-pow_right {n = 10} (omega arith) {i = n} {j = 15} le
