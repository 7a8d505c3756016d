-- A quotient that is rounded to the nearest whole number.
use Rattle.std.proofs.Common.{◌≡◌, ◌≤◌, ℕ, ◌+◌, ◌-◌, ◌*◌, ◌/◌, ◌^◌, sym, ◌∙◌, ap, subst, arith}
use Rattle.std.proofs.Math.Nat.{mul-le-mul_left}
use Rattle.std.proofs.lemmas.Nat.{pow-add}
use Rattle.trace_tools.specs.Nearest.{IsNearest}
use Rattle.trace_tools.proofs.Powers.{pow_some}

nearest_whole : (t d : ℕ) → 1 ≤ d → IsNearest t (t * d) d
nearest_whole t d some = record { not_above = omega arith; not_below = omega arith }

nearest_scaled : (t n d q : ℕ) → 1 ≤ q → IsNearest t n d → IsNearest t (n * q) (d * q)
nearest_scaled t n d q some h =
    let above = mul-le-mul_left q h.not_above in
    let more : 2 * n + d + 1 ≤ 2 * d * (t + 1) = omega (arith, h.not_below) in
    let below = mul-le-mul_left q more in
    record { not_above = omega arith; not_below = omega arith }

pub nearest_div : (n d : ℕ) → 1 ≤ d → IsNearest ((2 * n + d) / (2 * d)) n d
nearest_div n d some = record { not_above = omega arith; not_below = omega arith }

-- a power of ten as the product of two
split_power : (m k : ℕ) → k ≤ m → 10 ^ m ≡ 10 ^ (m - k) * 10 ^ k
split_power m k le = ap (λ (n : ℕ). 10 ^ n) (omega arith) ∙ pow-add 10 (m - k) k

-- more units than one in a microsecond's power
pub nearest_below : (units decimals power t : ℕ) → decimals ≤ power → t ≡ units * 10 ^ (power - decimals) * 48
    → IsNearest t (48 * units * 10 ^ power) (10 ^ decimals)
nearest_below units decimals power t le e =
    subst (λ (n : ℕ). IsNearest t n (10 ^ decimals))
    (let p = ap (λ (x : ℕ). units * x) (split_power power decimals le) in let q = ap (λ (x : ℕ). x * 10 ^ decimals) e in omega arith)
    (nearest_whole t (10 ^ decimals) (pow_some decimals))

-- parts of one
pub nearest_above : (units decimals power parts t : ℕ) → power ≤ decimals → parts ≡ 10 ^ (decimals - power) → t ≡ (96 * units + parts) / (2 * parts)
    → IsNearest t (48 * units * 10 ^ power) (10 ^ decimals)
nearest_above units decimals power parts t le p e =
    let some : 1 ≤ parts = subst (λ (n : ℕ). 1 ≤ n) (sym p) (pow_some (decimals - power)) in
    subst (λ (d : ℕ). IsNearest t (48 * units * 10 ^ power) d)
    (ap (λ (n : ℕ). n * 10 ^ power) p ∙ sym (split_power decimals power le))
    (nearest_scaled t (48 * units) parts (10 ^ power) (pow_some power)
    (subst (λ (x : ℕ). IsNearest x (48 * units) parts) (sym (e ∙ ap (λ (n : ℕ). (n + parts) / (2 * parts)) (omega arith)))
    (nearest_div (48 * units) parts some)))
