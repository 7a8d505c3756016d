-- Numbers in decimal digits.
use Rattle.std.proofs.Common.{◌≡◌, ◌+◌, ◌*◌, ◌-◌, ◌/◌, ◌^◌, ◌<◌, ◌≤◌, ℕ, zero, suc, min, true, length, length-append, ap, arith}
use Rattle.std.specs.Fmt.{decimal}
use Rattle.std.proofs.lemmas.Fmt.{decimal_digit, decimal_step}
use Rattle.std.specs.Char.{is_ascii_digit, digit_value}
use Rattle.std.proofs.lemmas.Bool.Decides.{nat_tests}

-- one digit more, where a number above 64 bits counts as the greatest
pub capped : (v n m a d : ℕ) → n ≡ min v 18446744073709551615 → m ≡ min (n * 10) 18446744073709551615 → a ≡ min (m + d) 18446744073709551615
    → a ≡ min (v * 10 + d) 18446744073709551615
capped v n m a d e f g = omega arith

pub capped_bits : (v n m a d : ℕ) → n ≡ min v 4294967295 → m ≡ min (n * 2) 4294967295 → a ≡ min (m + d) 4294967295 → a ≡ min (v * 2 + d) 4294967295
capped_bits v n m a d e f g = omega arith

pub digit_of : (b : ℕ) → is_ascii_digit b ≡ true → digit_value b ≡ b - 48
digit_of b h = grind (arith, nat_tests)

pub digit_most : (b : ℕ) → is_ascii_digit b ≡ true → b ≤ 57
digit_most b h = grind (arith, nat_tests)

-- ---- numbers as they are printed

pub length_decimal_step : (n : ℕ) → 10 ≤ n → n < 2 ^ 32 → length (decimal n) ≡ length (decimal (n / 10)) + 1
length_decimal_step n big small = rw (decimal_step n big (omega arith)) (simp length-append (omega arith))

-- the digits of a number between two powers of ten
pub length_decimal_is : (k n : ℕ) → 10 ^ k ≤ n → n < 10 * 10 ^ k → n < 2 ^ 32 → length (decimal n) ≡ k + 1
length_decimal_is zero n low high small = ap length (decimal_digit n (omega arith))
length_decimal_is (suc k) n low high small =
    let before = length_decimal_is k (n / 10) (omega arith) (omega arith) (omega arith) in
    rw (length_decimal_step n (omega arith) small) (omega arith)
