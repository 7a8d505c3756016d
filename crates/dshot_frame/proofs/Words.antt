-- The word that is read so far, bit by bit.
use Rattle.std.proofs.Common.{◌≡◌, ◌<◌, ◌⊎◌, inl, inr, ⊎_elim, ℕ, zero, suc, ◌+◌, ◌-◌, ◌*◌, Bool, true, false, ◌&&◌, ◌||◌, ◌==◌, if◌then◌else◌, List, [], ◌∷◌, ◌++◌, length, take, map, slice_index, Some, None, refl, ap, sym, ◌∙◌, subst, arith}
use Rattle.std.specs.List.{list_all}
use Rattle.std.proofs.lemmas.List.{length-map}
use Rattle.std.proofs.lemmas.List.Folds.{list_all_more, list_all_at}
use Rattle.std.proofs.lemmas.Bool.Decides.{nat_tests}
use Rattle.std.proofs.Math.Seq.{take-length}
use Rattle.esc_base.specs.declared.signal.Edge.{Edge}
use Rattle.esc_base.specs.declared.signal.Verdict.{Verdict}
use Rattle.esc_base.specs.Bits.{digit}
use Rattle.dshot_frame.specs.Bits.{number, reading}
use Rattle.dshot_frame.specs.Verdict.{starts, widths, steps, is_width, is_step, is_one, is_timely, is_timely_at, is_polar, is_span, span, bits_of, verdict_with}
use Rattle.dshot_frame.proofs.Bursts.{length-widths, length-starts, length-steps}
use Rattle.dshot_frame.proofs.Numbers.{number-push, few_bits}

-- the first i bits of the burst are within tolerance, and their number is the word
pub record IsSoFar (bit : ℕ) (edges : List Edge) (i word : ℕ) : Type 0 where
  pub word_is : word ≡ number (take i (bits_of bit edges))
  pub widths_right : list_all (is_width bit) (take i (widths edges)) ≡ true
  pub steps_right : list_all (is_step bit) (take (i - 1) (steps (starts edges))) ≡ true

pub length-bits_of : (bit : ℕ) (edges : List Edge) → length edges ≡ 32 → length (bits_of bit edges) ≡ 16
length-bits_of bit edges h = length-map (widths edges) (is_one bit) ∙ length-widths edges 16 h

length-all_steps : (edges : List Edge) → length edges ≡ 32 → length (steps (starts edges)) ≡ 15
length-all_steps edges h = let l = length-starts edges 16 h in length-steps (starts edges) ∙ omega arith

pub small_word : (bit : ℕ) (edges : List Edge) (i word : ℕ) → length edges ≡ 32 → i < 16 → IsSoFar bit edges i word → word < 32768
small_word bit edges i word h lt s =
    let l = length-bits_of bit edges h in
    rw s.word_is (few_bits (bits_of bit edges) i lt (omega arith))

pub none_so_far : (bit : ℕ) (edges : List Edge) → IsSoFar bit edges 0 0
unfolding number
none_so_far bit edges = record { word_is = refl; widths_right = refl; steps_right = refl }

both_left : (a b : Bool) → (a && b) ≡ true → a ≡ true
both_left true b h = refl
both_left false b h = absurd (cc)

both_right : (a b : Bool) → (a && b) ≡ true → b ≡ true
both_right true b h = h
both_right false b h = absurd (cc)

pub is_both : (a b : Bool) → a ≡ true → b ≡ true → (a && b) ≡ true
is_both true b h k = k
is_both false b h k = absurd (cc)

not_both : (a b : Bool) → (a && b) ≡ false → (a ≡ false) ⊎ (b ≡ false)
not_both true b h = inr h
not_both false b h = inl refl

and-false : (a : Bool) → (a && false) ≡ false
and-false true = refl
and-false false = refl

suc_isnt_zero : (i : ℕ) → (suc i == 0) ≡ false
suc_isnt_zero i = grind (arith, nat_tests)

or_right : (a b : Bool) → a ≡ false → (a || b) ≡ true → b ≡ true
or_right true b f h = absurd (cc)
or_right false b f h = h

steps_more : (bit i : ℕ) (xs : List ℕ) → length xs ≡ 15 → i < 16 → list_all (is_step bit) (take (i - 1) xs) ≡ true
    → ((i == 0) || is_step bit (slice_index xs (i - 1))) ≡ true → list_all (is_step bit) (take (i + 1 - 1) xs) ≡ true
steps_more bit zero xs h lt all here = refl
steps_more bit (suc i) xs h lt all here =
    let before : suc i - 1 ≡ i = omega arith in
    let after : suc i + 1 - 1 ≡ i + 1 = omega arith in
    let here' : is_step bit (slice_index xs i) ≡ true = rw before at (or_right _ _ (suc_isnt_zero i) here) in
    let all' : list_all (is_step bit) (take i xs) ≡ true = rw before at all in
    rw (after, list_all_more (is_step bit) xs i 0 (omega arith)) (is_both _ _ all' here')

one_more : (f : ℕ → Bool) (xs : List ℕ) (i : ℕ) → i < length xs → take i (map f xs) ++ f (slice_index xs i) ∷ [] ≡ take (i + 1) (map f xs)
one_more f [] i h = absurd (omega arith)
one_more f (x ∷ xs) zero h = refl
one_more f (x ∷ xs) (suc i) h =
    let next : suc i + 1 ≡ suc (i + 1) = omega arith in
    rw next (ap (λ (ys : List Bool). f x ∷ ys) (one_more f xs i (omega arith)))

pub more_so_far : (bit : ℕ) (edges : List Edge) (i word : ℕ) → length edges ≡ 32 → i < 16 → IsSoFar bit edges i word → is_timely_at bit edges i ≡ true
    → IsSoFar bit edges (i + 1) (2 * word + digit (is_one bit (slice_index (widths edges) i)))
more_so_far bit edges i word h lt s here =
    let l : length (widths edges) ≡ 16 = length-widths edges 16 h in
    let within : i < length (widths edges) = omega arith in
    record {
      word_is =
          ap (λ (n : ℕ). 2 * n + digit (is_one bit (slice_index (widths edges) i))) s.word_is
          ∙ sym (number-push (take i (bits_of bit edges)) (is_one bit (slice_index (widths edges) i)))
          ∙ ap number (one_more (is_one bit) (widths edges) i within);
      widths_right = rw (list_all_more (is_width bit) (widths edges) i 0 within) (is_both _ _ s.widths_right (both_left _ _ here));
      steps_right = steps_more bit i (steps (starts edges)) (length-all_steps edges h) lt s.steps_right (both_right _ _ here);
    }

not_either : (a b : Bool) → (a || b) ≡ false → (a ≡ false) × (b ≡ false)
not_either true b h = absurd (cc)
not_either false b h = (refl, h)

late_step : (bit i : ℕ) (xs : List ℕ) → length xs ≡ 15 → i < 16 → ((i == 0) || is_step bit (slice_index xs (i - 1))) ≡ false → list_all (is_step bit) xs ≡ false
late_step bit zero xs h lt late = absurd (cc)
late_step bit (suc i) xs h lt late = list_all_at (is_step bit) xs (suc i - 1) 0 (omega arith) (not_either _ _ late).1

pub untimely : (bit : ℕ) (edges : List Edge) (i : ℕ) → length edges ≡ 32 → i < 16 → is_timely_at bit edges i ≡ false → is_timely bit edges ≡ false
untimely bit edges i h lt late =
    let l : length (widths edges) ≡ 16 = length-widths edges 16 h in
    ⊎_elim
    (λ w. let f : list_all (is_width bit) (widths edges) ≡ false = list_all_at (is_width bit) (widths edges) i 0 (omega arith) w in rw f refl)
    (λ s.
    let f : list_all (is_step bit) (steps (starts edges)) ≡ false = late_step bit i (steps (starts edges)) (length-all_steps edges h) lt s in
    rw f (and-false _))
    (not_both _ _ late)

take_all : {A : Type 0} (xs : List A) (n : ℕ) → length xs ≡ n → take n xs ≡ xs
take_all xs n h = subst (λ (k : ℕ). take k xs ≡ xs) h (take-length xs)

pub all_so_far : (bit : ℕ) (edges : List Edge) (word : ℕ) → length edges ≡ 32 → IsSoFar bit edges 16 word
    → Some word ≡ (if is_timely bit edges then Some (number (bits_of bit edges)) else None)
all_so_far bit edges word h s =
    let w : list_all (is_width bit) (widths edges) ≡ true = rw (take_all (widths edges) 16 (length-widths edges 16 h)) at s.widths_right in
    let t : list_all (is_step bit) (steps (starts edges)) ≡ true = rw (take_all (steps (starts edges)) 15 (length-all_steps edges h)) at s.steps_right in
    let n : word ≡ number (bits_of bit edges) = rw (take_all (bits_of bit edges) 16 (length-bits_of bit edges h)) at s.word_is in
    rw (is_both _ _ w t, n) refl

told : (b : Bool) (word n : ℕ) → Some word ≡ (if b then Some n else None) → (b ≡ true) × (word ≡ n)
told true word n h = (refl, cc)
told false word n h = absurd (cc)

-- a burst that passes all tests but the checksum's is what its word says
pub passes : (bit : ℕ) (inverted : Bool) (edges : List Edge) (word : ℕ) (r : Verdict)
    → length edges ≡ 32 → is_polar inverted edges ≡ true → is_span bit (span edges) ≡ true
    → Some word ≡ (if is_timely bit edges then Some (number (bits_of bit edges)) else None)
    → ((bits : List Bool) → length bits ≡ 16 → word ≡ number bits → r ≡ reading inverted bits)
    → r ≡ verdict_with bit inverted edges
passes bit inverted edges word r count polar spans w said =
    let t = told _ _ _ w in
    let right : is_timely bit edges ≡ true = t.0 in
    rw (count, polar, spans, right) (said (bits_of bit edges) (length-bits_of bit edges count) t.1)
