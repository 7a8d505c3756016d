-- What a word says, and its checksum, as the code computes them.
use Rattle.std.proofs.Common.{◌≡◌, ◌≢◌, ◌<◌, ℕ, ◌+◌, ◌*◌, ◌/◌, ◌%◌, Bool, true, false, not, nat_eq, List, [], ◌∷◌, ◌++◌, length, take, drop, map, refl, ap, ap₂, sym, ◌∙◌, arith, length-append}
use Rattle.std.specs.Prelude.{bit_and, bit_xor}
use Rattle.std.specs.Int.Bits.{xor_assoc}
use Rattle.std.proofs.lemmas.Nat.{and_mask, xor_mod, xor_comm}
use Rattle.esc_base.specs.declared.signal.Verdict.TheVariants.{Good, Bad}
use Rattle.esc_base.specs.declared.signal.Why.TheVariants.{Check}
use Rattle.esc_base.specs.Bits.{digit, xor}
use Rattle.dshot_frame.specs.Bits.{number, each_xor, is_same, sum_of, checksum_of, frame_of, reading}
use Rattle.dshot_frame.proofs.Numbers.{number-lt, number-push, number-append, number-each_xor, same-number, number-same}

-- the exclusive or of a number's three groups of four bits
abbrev pub sum : ℕ → ℕ
sum n = bit_and (bit_xor (bit_xor n (n / 16)) (n / 256)) 15

sum_parts : (a b c : ℕ) → a < 16 → b < 16 → c < 16 → sum (a * 256 + (b * 16 + c)) ≡ bit_xor (bit_xor a b) c
sum_parts a b c ha hb hc =
    let n : ℕ = a * 256 + (b * 16 + c) in
    let low : n % 16 ≡ c = omega arith in
    let mid : n / 16 % 16 ≡ b = omega arith in
    let high : n / 256 % 16 ≡ a = omega arith in
    and_mask (bit_xor (bit_xor n (n / 16)) (n / 256)) 4
    ∙ xor_mod (bit_xor n (n / 16)) (n / 256) 4
    ∙ ap₂ bit_xor (xor_mod n (n / 16) 4 ∙ ap₂ bit_xor low mid) high
    ∙ xor_comm (bit_xor c b) a
    ∙ ap (bit_xor a) (xor_comm c b)
    ∙ sym (xor_assoc a b c)

sum_groups : (xs ys zs : List Bool) → length xs ≡ 4 → length ys ≡ 4 → length zs ≡ 4 → length (each_xor xs ys) ≡ 4
    → sum (number (xs ++ (ys ++ zs))) ≡ number (each_xor (each_xor xs ys) zs)
sum_groups xs ys zs hx hy hz hxy =
    let a : number xs < 16 = let l = number-lt xs in rw hx at l in
    let b : number ys < 16 = let l = number-lt ys in rw hy at l in
    let c : number zs < 16 = let l = number-lt zs in rw hz at l in
    let yz : number (ys ++ zs) ≡ number ys * 16 + number zs = rw hz at (number-append ys zs) in
    let l : length (ys ++ zs) ≡ 8 = length-append ys zs ∙ omega arith in
    let n : number (xs ++ (ys ++ zs)) ≡ number xs * 256 + (number ys * 16 + number zs) =
    (rw l at (number-append xs (ys ++ zs))) ∙ ap (λ (m : ℕ). number xs * 256 + m) yz in
    rw n (sum_parts (number xs) (number ys) (number zs) a b c
    ∙ sym (number-each_xor (each_xor xs ys) zs (hxy ∙ sym hz) ∙ ap (λ (x : ℕ). bit_xor x (number zs)) (number-each_xor xs ys (hx ∙ sym hy))))

pub sum-number : (bits : List Bool) → length bits ≡ 12 → sum (number bits) ≡ number (sum_of bits)
sum-number (a ∷ b ∷ c ∷ d ∷ e ∷ f ∷ g ∷ h ∷ i ∷ j ∷ k ∷ l ∷ []) n =
    sum_groups (a ∷ b ∷ c ∷ d ∷ []) (e ∷ f ∷ g ∷ h ∷ []) (i ∷ j ∷ k ∷ l ∷ []) refl refl refl refl
sum-number _ n = absurd (omega arith)

xor-true : (b : Bool) → not b ≡ xor b true
xor-true true = refl
xor-true false = refl

ones : number (true ∷ true ∷ true ∷ true ∷ []) ≡ 15
unfolding number
ones = refl

flipped : (a b c d : Bool) → bit_xor (number (a ∷ b ∷ c ∷ d ∷ [])) 15 ≡ number (not a ∷ not b ∷ not c ∷ not d ∷ [])
flipped a b c d =
    rw (xor-true a, xor-true b, xor-true c, xor-true d)
    (sym (number-each_xor (a ∷ b ∷ c ∷ d ∷ []) (true ∷ true ∷ true ∷ true ∷ []) refl
    ∙ ap (bit_xor (number (a ∷ b ∷ c ∷ d ∷ []))) ones))

pub complement-number : (bits : List Bool) → length bits ≡ 12 → bit_xor (sum (number bits)) 15 ≡ number (map not (sum_of bits))
complement-number (a ∷ b ∷ c ∷ d ∷ e ∷ f ∷ g ∷ h ∷ i ∷ j ∷ k ∷ l ∷ []) n =
    ap (λ (s : ℕ). bit_xor s 15) (sum-number (a ∷ b ∷ c ∷ d ∷ e ∷ f ∷ g ∷ h ∷ i ∷ j ∷ k ∷ l ∷ []) n)
    ∙ flipped (xor (xor a e) i) (xor (xor b f) j) (xor (xor c g) k) (xor (xor d h) l)
complement-number _ n = absurd (omega arith)

length-checksum_of : (inverted : Bool) (upper : List Bool) → length upper ≡ 12 → length (checksum_of inverted upper) ≡ 4
length-checksum_of true (a ∷ b ∷ c ∷ d ∷ e ∷ f ∷ g ∷ h ∷ i ∷ j ∷ k ∷ l ∷ []) n = refl
length-checksum_of false (a ∷ b ∷ c ∷ d ∷ e ∷ f ∷ g ∷ h ∷ i ∷ j ∷ k ∷ l ∷ []) n = refl
length-checksum_of _ _ n = absurd (omega arith)

-- the parts of a word
record IsWord (word : ℕ) (top low : List Bool) (telemetry : Bool) : Type 0 where
  value : word / 16 / 2 ≡ number top
  telemetry_is : nat_eq (bit_and (word / 16) 1) 1 ≡ telemetry
  upper : word / 16 ≡ number (top ++ telemetry ∷ [])
  lower : bit_and word 15 ≡ number low

pub telemetry_at : (n m : ℕ) (t : Bool) → n ≡ 2 * m + digit t → nat_eq (bit_and n 1) 1 ≡ t
telemetry_at n m true h = let r : bit_and n 1 ≡ 1 = and_mask n 1 ∙ omega arith in rw r refl
telemetry_at n m false h = let r : bit_and n 1 ≡ 0 = and_mask n 1 ∙ omega arith in rw r refl

value_at : (n m : ℕ) (t : Bool) → n ≡ 2 * m + digit t → n / 2 ≡ m
value_at n m true h = omega arith
value_at n m false h = omega arith

word_parts : (word : ℕ) (top low : List Bool) (t : Bool) → length low ≡ 4 → word ≡ number ((top ++ t ∷ []) ++ low) → IsWord word top low t
word_parts word top low t h w =
    let lt : number low < 16 = let l = number-lt low in rw h at l in
    let n : word ≡ number (top ++ t ∷ []) * 16 + number low = w ∙ (rw h at (number-append (top ++ t ∷ []) low)) in
    let u : word / 16 ≡ number (top ++ t ∷ []) = omega arith in
    let v : word / 16 ≡ 2 * number top + digit t = u ∙ number-push top t in
    record {
      value = value_at (word / 16) (number top) t v;
      telemetry_is = telemetry_at (word / 16) (number top) t v;
      upper = u;
      lower = and_mask word 4 ∙ omega arith;
    }

reading_good : (inverted : Bool) (bits : List Bool) → is_same (drop 12 bits) (checksum_of inverted (take 12 bits)) ≡ true
    → Good (frame_of bits) ≡ reading inverted bits
unfolding reading
reading_good inverted bits h = rw h refl

reading_bad : (inverted : Bool) (bits : List Bool) → is_same (drop 12 bits) (checksum_of inverted (take 12 bits)) ≡ false
    → Bad Check ≡ reading inverted bits
unfolding reading
reading_bad inverted bits h = rw h refl

-- the checksum that was computed is that of a word's upper bits
abbrev pub IsSumOf : Bool → ℕ → ℕ → Type 0
IsSumOf inverted word computed = (upper : List Bool) → length upper ≡ 12 → word / 16 ≡ number upper → computed ≡ number (checksum_of inverted upper)

pub word_good : (inverted : Bool) (word computed : ℕ) (bits : List Bool) → length bits ≡ 16 → word ≡ number bits → IsSumOf inverted word computed
    → bit_and word 15 ≡ computed → Good (record { value = word / 16 / 2; telemetry = nat_eq (bit_and (word / 16) 1) 1 }) ≡ reading inverted bits
word_good inverted word computed (a ∷ b ∷ c ∷ d ∷ e ∷ f ∷ g ∷ h ∷ i ∷ j ∷ k ∷ l ∷ m ∷ n ∷ o ∷ p ∷ []) len w s same =
    let top : List Bool = a ∷ b ∷ c ∷ d ∷ e ∷ f ∷ g ∷ h ∷ i ∷ j ∷ k ∷ [] in
    let low : List Bool = m ∷ n ∷ o ∷ p ∷ [] in
    let parts = word_parts word top low l refl w in
    let sum_is : computed ≡ number (checksum_of inverted (top ++ l ∷ [])) = s (top ++ l ∷ []) refl parts.upper in
    let right : is_same low (checksum_of inverted (top ++ l ∷ [])) ≡ true =
    same-number low (checksum_of inverted (top ++ l ∷ [])) (sym (length-checksum_of inverted (top ++ l ∷ []) refl)) (sym parts.lower ∙ same ∙ sum_is) in
    rw (parts.value, parts.telemetry_is) (reading_good inverted (a ∷ b ∷ c ∷ d ∷ e ∷ f ∷ g ∷ h ∷ i ∷ j ∷ k ∷ l ∷ m ∷ n ∷ o ∷ p ∷ []) right)
word_good _ _ _ _ len w s same = absurd (omega arith)

false_unless : (b : Bool) → (b ≡ true → ⊥) → b ≡ false
false_unless true h = absurd (h refl)
false_unless false h = refl

pub word_bad : (inverted : Bool) (word computed : ℕ) (bits : List Bool) → length bits ≡ 16 → word ≡ number bits → IsSumOf inverted word computed
    → bit_and word 15 ≢ computed → Bad Check ≡ reading inverted bits
word_bad inverted word computed (a ∷ b ∷ c ∷ d ∷ e ∷ f ∷ g ∷ h ∷ i ∷ j ∷ k ∷ l ∷ m ∷ n ∷ o ∷ p ∷ []) len w s differs =
    let top : List Bool = a ∷ b ∷ c ∷ d ∷ e ∷ f ∷ g ∷ h ∷ i ∷ j ∷ k ∷ [] in
    let low : List Bool = m ∷ n ∷ o ∷ p ∷ [] in
    let parts = word_parts word top low l refl w in
    let sum_is : computed ≡ number (checksum_of inverted (top ++ l ∷ [])) = s (top ++ l ∷ []) refl parts.upper in
    let wrong : is_same low (checksum_of inverted (top ++ l ∷ [])) ≡ false =
    false_unless _ (λ t. differs (parts.lower ∙ number-same low (checksum_of inverted (top ++ l ∷ [])) t ∙ sym sum_is)) in
    reading_bad inverted (a ∷ b ∷ c ∷ d ∷ e ∷ f ∷ g ∷ h ∷ i ∷ j ∷ k ∷ l ∷ m ∷ n ∷ o ∷ p ∷ []) wrong
word_bad _ _ _ _ len w s differs = absurd (omega arith)
