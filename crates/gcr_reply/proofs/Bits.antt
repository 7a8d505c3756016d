-- The bits of a number, and the changes between them.
use Rattle.std.proofs.Common.{◌≡◌, ◌<◌, ℕ, zero, suc, ◌+◌, ◌*◌, ◌/◌, ◌%◌, ◌^◌, ◌==◌, if◌then◌else◌, List, ◌∷◌, ◌++◌, refl, ap, sym, ◌∙◌, arith, lit<}
use Rattle.std.specs.Prelude.{bit_xor}
use Rattle.std.specs.Int.Bits.{xor_assoc, xor_self, xor_zero_r}
use Rattle.std.proofs.Math.Nat.{pow-suc, add-mul-div_right}
use Rattle.std.proofs.lemmas.Nat.{pow_pos, shr-shr, xor_shr, xor_lt, shr_split, mod_below, div_below, div-mul-add}
use Rattle.std.proofs.lemmas.Nat.Bits.{bit_at_xor, bit_at-lt}
use Rattle.std.proofs.lemmas.Bool.Decides.{nat_tests}
use Rattle.gcr_reply.specs.Line.{bits_of, changes}
use Rattle.gcr_reply.specs.Reply.{line_of}

-- what stands above the k lowest bits doesn't matter
pub bits_of-low : (k a r : ℕ) → bits_of k (a * 2 ^ k + r) ≡ bits_of k r
unfolding bits_of
bits_of-low zero a r = refl
bits_of-low (suc k) a r =
    let e : a * 2 ^ suc k + r ≡ r + (a * 2) * 2 ^ k = rw pow-suc (omega arith) in
    let turned : r + (a * 2) * 2 ^ k ≡ (a * 2) * 2 ^ k + r = omega arith in
    let q : (r + (a * 2) * 2 ^ k) / 2 ^ k ≡ r / 2 ^ k + a * 2 = add-mul-div_right r (a * 2) (pow_pos k) in
    let head : (r + (a * 2) * 2 ^ k) / 2 ^ k % 2 ≡ r / 2 ^ k % 2 = rw q (omega arith) in
    let rest : bits_of k (r + (a * 2) * 2 ^ k) ≡ bits_of k r = rw turned (bits_of-low k (a * 2) r) in
    rw (e, head, rest) refl

-- the bits above the k lowest, and then these
pub bits_of-append : (j k n : ℕ) → bits_of (j + k) n ≡ bits_of j (n / 2 ^ k) ++ bits_of k n
unfolding bits_of
bits_of-append zero k n = let e : zero + k ≡ k = omega arith in rw e refl
bits_of-append (suc j) k n =
    let e : suc j + k ≡ suc (j + k) = omega arith in
    let turned : j + k ≡ k + j = omega arith in
    let q : n / 2 ^ (j + k) ≡ n / 2 ^ k / 2 ^ j = ap (λ (i : ℕ). n / 2 ^ i) turned ∙ sym (shr-shr n k j) in
    rw e (rw (q, bits_of-append j k n) refl)

-- a high part and a low one
pub bits_of-join : (j k a r : ℕ) → r < 2 ^ k → bits_of (j + k) (a * 2 ^ k + r) ≡ bits_of j a ++ bits_of k r
bits_of-join j k a r h = rw (bits_of-append j k (a * 2 ^ k + r), div-mul-add a (2 ^ k) r h, bits_of-low k a r) refl

-- the bits below the highest are those of the remainder
bits_of-mod : (k n : ℕ) → bits_of k (n % 2 ^ k) ≡ bits_of k n
bits_of-mod k n = sym (rw (shr_split n k) at (bits_of-low k (n / 2 ^ k) (n % 2 ^ k)))

-- the bits tell the number
pub same_from_bits_of : (k m n : ℕ) → m < 2 ^ k → n < 2 ^ k → bits_of k m ≡ bits_of k n → m ≡ n
unfolding bits_of
same_from_bits_of zero m n hm hn e = omega arith
same_from_bits_of (suc k) m n hm hn e =
    let pm : m < 2 * 2 ^ k = let h = rw pow-suc at hm in omega (arith, h) in
    let pn : n < 2 * 2 ^ k = let h = rw pow-suc at hn in omega (arith, h) in
    let high_m = div_below m (2 ^ k) 2 (pow_pos k) pm in
    let high_n = div_below n (2 ^ k) 2 (pow_pos k) pn in
    let head : m / 2 ^ k % 2 ≡ n / 2 ^ k % 2 = cc in
    let rest : bits_of k m ≡ bits_of k n = cc in
    let high : m / 2 ^ k ≡ n / 2 ^ k = omega arith in
    let low : m % 2 ^ k ≡ n % 2 ^ k =
    same_from_bits_of k (m % 2 ^ k) (n % 2 ^ k) (mod_below m (2 ^ k) (pow_pos k)) (mod_below n (2 ^ k) (pow_pos k))
    (bits_of-mod k m ∙ rest ∙ sym (bits_of-mod k n)) in
    sym (shr_split m k) ∙ (rw (high, low) (shr_split n k))

differs : (a b : ℕ) → a < 2 → b < 2 → (if a == b then 0 else 1) ≡ (b + a) % 2
differs a b ha hb = grind (arith, nat_tests)

-- the changes between the bits of a number
pub changes-bits_of : (k n : ℕ) → changes (bits_of (suc k) n) ≡ bits_of k (bit_xor n (n / 2))
unfolding bits_of
changes-bits_of zero n = refl
changes-bits_of (suc k) n =
    let up : n / 2 / 2 ^ k ≡ n / 2 ^ suc k = shr-shr n 1 k ∙ ap (λ (i : ℕ). n / 2 ^ i) (omega arith) in
    let bit : bit_xor n (n / 2) / 2 ^ k % 2 ≡ (n / 2 ^ k % 2 + n / 2 / 2 ^ k % 2) % 2 = bit_at_xor n (n / 2) k in
    rw (bit, up, differs (n / 2 ^ suc k % 2) (n / 2 ^ k % 2) (bit_at-lt n (suc k)) (bit_at-lt n k))
    (ap (λ (rest : List ℕ). (n / 2 ^ k % 2 + n / 2 ^ suc k % 2) % 2 ∷ rest) (changes-bits_of k n))

pub xor_twice : (a b : ℕ) → bit_xor (bit_xor a b) b ≡ a
xor_twice a b = xor_assoc a b b ∙ ap (bit_xor a) (xor_self b) ∙ xor_zero_r a

half_below : (k n : ℕ) → n < 2 ^ suc k → n / 2 < 2 ^ k
half_below k n h = let p = rw pow-suc at h in omega (arith, p)

-- a line changes where the bits that it was made of are 1
pub line_of-changes : (k n : ℕ) → n < 2 ^ k → bit_xor (line_of k n) (line_of k n / 2) ≡ n
unfolding line_of
line_of-changes zero n h = omega arith
line_of-changes (suc k) n h =
    let l : ℕ = line_of k (n / 2) in
    let before : bit_xor l (l / 2) ≡ n / 2 = line_of-changes k (n / 2) (half_below k n h) in
    let half : bit_xor n l / 2 ≡ bit_xor (n / 2) (l / 2) = xor_shr n l 1 in
    let turned : bit_xor (n / 2) (l / 2) ≡ l = ap (λ (m : ℕ). bit_xor m (l / 2)) (sym before) ∙ xor_twice l (l / 2) in
    ap (bit_xor (bit_xor n l)) (half ∙ turned) ∙ xor_twice n l

-- and is made of its changes
pub line_of-made : (k bits : ℕ) → bits < 2 ^ k → line_of k (bit_xor bits (bits / 2)) ≡ bits
unfolding line_of
line_of-made zero bits h = omega arith
line_of-made (suc k) bits h =
    let half : bit_xor bits (bits / 2) / 2 ≡ bit_xor (bits / 2) (bits / 2 / 2) = xor_shr bits (bits / 2) 1 in
    let before : line_of k (bit_xor bits (bits / 2) / 2) ≡ bits / 2 = rw half (line_of-made k (bits / 2) (half_below k bits h)) in
    ap (bit_xor (bit_xor bits (bits / 2))) before ∙ xor_twice bits (bits / 2)

pub line_of-lt : (k n : ℕ) → n < 2 ^ k → line_of k n < 2 ^ k
unfolding line_of
line_of-lt zero n h = lit< tt
line_of-lt (suc k) n h =
    let before = line_of-lt k (n / 2) (half_below k n h) in
    let l : line_of k (n / 2) < 2 ^ suc k = rw pow-suc (omega arith) in
    xor_lt (suc k) n (line_of k (n / 2)) h l
