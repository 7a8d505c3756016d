-- The number that bits stand for.
use Rattle.std.proofs.Common.{◌≡◌, ◌<◌, ◌≤◌, ℕ, suc, ◌+◌, ◌*◌, ◌%◌, ◌^◌, Bool, true, false, List, [], ◌∷◌, ◌++◌, length, take, refl, ap, sym, ◌∙◌, arith, length-append, lit<}
use Rattle.std.specs.Prelude.{bit_or, bit_xor}
use Rattle.std.specs.Int.{from_bool}
use Rattle.std.proofs.Math.Nat.{pow-suc, pow-le-pow_right}
use Rattle.std.proofs.lemmas.List.{length_push, length-take-le}
use Rattle.std.proofs.lemmas.Nat.{pow-add, xor_block}
use Rattle.std.proofs.lemmas.Grind.{or_after_shift}
use Rattle.esc_base.specs.Bits.{digit, xor}
use Rattle.dshot_frame.specs.Bits.{number, each_xor, is_same}

pub number-lt : (bits : List Bool) → number bits < 2 ^ length bits
unfolding number
number-lt [] = lit< tt
number-lt (true ∷ bits) = let h = number-lt bits in rw pow-suc (omega arith)
number-lt (false ∷ bits) = let h = number-lt bits in rw pow-suc (omega arith)

-- one more bit at the end
pub number-push : (bits : List Bool) (b : Bool) → number (bits ++ b ∷ []) ≡ 2 * number bits + digit b
unfolding number
number-push [] true = refl
number-push [] false = refl
number-push (c ∷ bits) b =
    let h = number-push bits b in
    let l : length (bits ++ b ∷ []) ≡ suc (length bits) = length_push bits b ∙ omega arith in
    let p : 2 ^ length (bits ++ b ∷ []) ≡ 2 ^ length bits * 2 = ap (λ (n : ℕ). 2 ^ n) l ∙ pow-suc 2 (length bits) in
    rw (p, h) (doubled (digit c) (2 ^ length bits) (number bits) (digit b))
  where
    doubled : (c p n d : ℕ) → c * (p * 2) + (2 * n + d) ≡ 2 * (c * p + n) + d
    doubled c p n d = omega arith

pub number-append : (xs ys : List Bool) → number (xs ++ ys) ≡ number xs * 2 ^ length ys + number ys
unfolding number
number-append [] ys = omega arith
number-append (x ∷ xs) ys =
    let h = number-append xs ys in
    let p : 2 ^ length (xs ++ ys) ≡ 2 ^ length xs * 2 ^ length ys = ap (λ (n : ℕ). 2 ^ n) (length-append xs ys) ∙ pow-add 2 (length xs) (length ys) in
    rw (p, h) (joined (digit x) (2 ^ length xs) (2 ^ length ys) (number xs) (number ys))
  where
    joined : (x p q m n : ℕ) → x * (p * q) + (m * q + n) ≡ (x * p + m) * q + n
    joined x p q m n = omega arith

-- the bits that were read so far of sixteen
pub few_bits : (bits : List Bool) (i : ℕ) → i < 16 → i ≤ length bits → number (take i bits) < 32768
few_bits bits i h le =
    let a = number-lt (take i bits) in
    let l : length (take i bits) ≡ i = length-take-le i bits le in
    let p : 2 ^ i ≤ 2 ^ 15 = pow-le-pow_right {n = 2} (lit< tt) {i = i} {j = 15} (omega arith) in
    let e : 2 ^ length (take i bits) ≡ 2 ^ i = ap (λ (n : ℕ). 2 ^ n) l in
    omega arith

pub length-each_xor : (xs ys : List Bool) → length xs ≡ length ys → length (each_xor xs ys) ≡ length xs
length-each_xor [] ys h = refl
length-each_xor (x ∷ xs) [] h = absurd (omega arith)
length-each_xor (x ∷ xs) (y ∷ ys) h = ap suc (length-each_xor xs ys (omega arith))

digit-xor : (x y : Bool) → digit (xor x y) ≡ bit_xor (digit x) (digit y)
digit-xor true true = refl
digit-xor true false = refl
digit-xor false true = refl
digit-xor false false = refl

pub number-each_xor : (xs ys : List Bool) → length xs ≡ length ys → number (each_xor xs ys) ≡ bit_xor (number xs) (number ys)
unfolding number
number-each_xor [] [] h = refl
number-each_xor [] (y ∷ ys) h = absurd (omega arith)
number-each_xor (x ∷ xs) [] h = absurd (omega arith)
number-each_xor (x ∷ xs) (y ∷ ys) h =
    let l : length xs ≡ length ys = omega arith in
    let lt : number ys < 2 ^ length xs = rw l (number-lt ys) in
    rw (length-each_xor xs ys l, digit-xor x y, number-each_xor xs ys l, ← l)
    (sym (xor_block (length xs) (digit x) (digit y) (number xs) (number ys) (number-lt xs) lt))

same_rest : (d : ℕ) (xs ys : List Bool) → length xs ≡ length ys → d * 2 ^ length xs + number xs ≡ d * 2 ^ length ys + number ys → number xs ≡ number ys
same_rest d xs ys h e =
    let p : d * 2 ^ length xs ≡ d * 2 ^ length ys = ap (λ (n : ℕ). d * 2 ^ n) h in
    rest_of (d * 2 ^ length xs) (d * 2 ^ length ys) (number xs) (number ys) p e
  where
    rest_of : (a b m n : ℕ) → a ≡ b → a + m ≡ b + n → m ≡ n
    rest_of a b m n p e = omega arith

apart : (xs ys : List Bool) → length xs ≡ length ys → 1 * 2 ^ length xs + number xs ≡ 0 * 2 ^ length ys + number ys → ⊥
apart xs ys h e =
    let p : 2 ^ length xs ≡ 2 ^ length ys = ap (λ (n : ℕ). 2 ^ n) h in
    let l = number-lt ys in
    omega arith

same-length : (xs ys : List Bool) → is_same xs ys ≡ true → length xs ≡ length ys
same-length [] [] h = refl
same-length [] (y ∷ ys) h = absurd (cc)
same-length (x ∷ xs) [] h = absurd (cc)
same-length (true ∷ xs) (true ∷ ys) h = ap suc (same-length xs ys h)
same-length (false ∷ xs) (false ∷ ys) h = ap suc (same-length xs ys h)
same-length (true ∷ xs) (false ∷ ys) h = absurd (cc)
same-length (false ∷ xs) (true ∷ ys) h = absurd (cc)

-- rows of equal length are the same exactly where their numbers are
pub same-number : (xs ys : List Bool) → length xs ≡ length ys → number xs ≡ number ys → is_same xs ys ≡ true
unfolding number
same-number [] [] h e = refl
same-number [] (y ∷ ys) h e = absurd (omega arith)
same-number (x ∷ xs) [] h e = absurd (omega arith)
same-number (true ∷ xs) (true ∷ ys) h e = same-number xs ys (omega arith) (same_rest 1 xs ys (omega arith) e)
same-number (false ∷ xs) (false ∷ ys) h e = same-number xs ys (omega arith) (same_rest 0 xs ys (omega arith) e)
same-number (true ∷ xs) (false ∷ ys) h e = absurd (apart xs ys (omega arith) e)
same-number (false ∷ xs) (true ∷ ys) h e = absurd (apart ys xs (omega arith) (sym e))

pub number-same : (xs ys : List Bool) → is_same xs ys ≡ true → number xs ≡ number ys
unfolding number
number-same [] [] h = refl
number-same [] (y ∷ ys) h = absurd (cc)
number-same (x ∷ xs) [] h = absurd (cc)
number-same (true ∷ xs) (true ∷ ys) h = let e = number-same xs ys h in rw (same-length xs ys h, e) refl
number-same (false ∷ xs) (false ∷ ys) h = let e = number-same xs ys h in rw (same-length xs ys h, e) refl
number-same (true ∷ xs) (false ∷ ys) h = absurd (cc)
number-same (false ∷ xs) (true ∷ ys) h = absurd (cc)

pub digit_small : (b : Bool) → digit b ≤ 1
digit_small true = omega arith
digit_small false = omega arith

pub digit-from_bool : (b : Bool) → from_bool b ≡ digit b
digit-from_bool true = refl
digit-from_bool false = refl

-- one more bit of a word, as the code shifts it in
pub shifted_in : (word d : ℕ) (b : Bool) → word < 32768 → d ≡ digit b → bit_or (word * 2 % 65536) d ≡ 2 * word + digit b
shifted_in word d b h e =
    let one = digit_small b in
    rw e (or_after_shift word 2 65536 (digit b) refl (omega arith) (omega arith) ∙ omega arith)
