-- How many times of a beat come before a time.
use Rattle.std.proofs.Common.{◌≡◌, ◌≤◌, ◌<◌, ◌⊎◌, ℕ, zero, suc, ◌+◌, ◌-◌, ◌*◌, [], ◌∷◌, Option, Some, None, inl, inr, refl, ◌∙◌, ap, arith}
use Rattle.std.proofs.lemmas.Grind.{div_ceil_times}
use Rattle.std.proofs.Math.Nat.{lt_of_mul-lt-mul_right, mul-le-mul_right}
use Rattle.am32trace.specs.declared.signal_line.Repeated.{Repeated}
use Rattle.am32trace.specs.Asked.{Sender, due_of, beats_before, beat_from, train, due_before, moved_on, train_before, delayed, spoil_left, unless_sent}
use Rattle.am32trace.specs.Line.{stepped}

pub times_suc : (n p : ℕ) → suc n * p ≡ n * p + p
times_suc n p = grind arith

pub times_less : (k n p : ℕ) → k < n → k * p + p ≤ n * p
times_less k n p less =
    let e = times_suc k p in
    let more = mul-le-mul_right {m = suc k} {n = n} p (omega (arith, less)) in
    omega (arith, e, more)

not_more : (n m p a : ℕ) → n * p < a + p → a ≤ m * p → n ≤ m
not_more n m p a h g =
    let e = times_suc m p in
    let lt : n * p < suc m * p = omega (arith, e, h, g) in
    let less = lt_of_mul-lt-mul_right p {m = n} {n = suc m} lt in
    omega (arith, less)

same_count : (n m p a : ℕ) → a ≤ n * p → n * p < a + p → a ≤ m * p → m * p < a + p → n ≡ m
same_count n m p a h g i j =
    let x = not_more n m p a g i in
    let y = not_more m n p a j h in
    omega (arith, x, y)

module _ (p : ℕ) (positive : 0 < p) where
  pub count_low : (first t : ℕ) → t - first ≤ beats_before p first t * p
  count_low first t = (div_ceil_times (t - first) p positive).0

  pub count_high : (first t : ℕ) → beats_before p first t * p < (t - first) + p
  count_high first t = (div_ceil_times (t - first) p positive).1

  pub no_beat : (first t : ℕ) → t ≤ first → beats_before p first t ≡ 0
  no_beat first t late =
      let low = count_low first t in
      let high = count_high first t in
      same_count (beats_before p first t) 0 p (t - first) low high (omega (arith, late)) (omega (arith, late, positive))

  none_or_more : (n : ℕ) → (n * p ≡ 0) ⊎ (p ≤ n * p)
  none_or_more zero = inl (grind arith)
  none_or_more (suc n) = let e = times_suc n p in inr (omega (arith, e))

  room : (n first t : ℕ) → (n * p ≡ 0) ⊎ (p ≤ n * p) → n * p < (t - (first + p)) + p → first < t → n * p < t - first
  room n first t (inl none) high early = omega (arith, none, high, early)
  room n first t (inr more) high early = omega (arith, more, high, early)

  pub one_beat : (first t : ℕ) → first < t → beats_before p first t ≡ suc (beats_before p (first + p) t)
  one_beat first t early =
      let low = count_low first t in
      let high = count_high first t in
      let low_next = count_low (first + p) t in
      let high_next = count_high (first + p) t in
      let e = times_suc (beats_before p (first + p) t) p in
      same_count (beats_before p first t) (suc (beats_before p (first + p) t)) p (t - first) low high
      (omega (arith, e, low_next, early))
      (let free = room (beats_before p (first + p) t) first t (none_or_more (beats_before p (first + p) t)) high_next early in omega (arith, e, free))

  pub beat_late : (first t : ℕ) → t ≤ beat_from p first t
  beat_late first t = let low = count_low first t in omega (arith, low)

  pub beat_most : (first t : ℕ) → beat_from p first t < first + (t - first) + p
  beat_most first t = let high = count_high first t in omega (arith, high)

  pub beat_same : (first t : ℕ) → t ≤ first → beat_from p first t ≡ first
  beat_same first t late = let e = no_beat first t late in let z : 0 * p ≡ 0 = grind arith in ap (λ (n : ℕ). first + n * p) e ∙ omega (arith, z)

  pub beat_next : (first t : ℕ) → first < t → beat_from p first t ≡ beat_from p (first + p) t
  beat_next first t early =
      let e = one_beat first t early in
      let m = times_suc (beats_before p (first + p) t) p in
      ap (λ (n : ℕ). first + n * p) e ∙ omega (arith, m)

  -- the first message of a stretch
  pub train_first : (s : Sender) (r : Repeated) (t : ℕ) → s.period ≡ p → s.repeated ≡ Some r → r.next.0 < t
      → due_before s t ≡ due_of s.mode r.message s.spoil r.next.0 ∷ due_before (stepped s) t
  unfolding train
  train_first s r t is_p is early =
      rw (is, is_p) (rw (one_beat r.next.0 t early) refl)

  unless_again : (k : ℕ) → None ≡ unless_sent None k
  unless_again zero = refl
  unless_again (suc k) = refl

  pub moved_first : (s : Sender) (r : Repeated) (t : ℕ) → s.period ≡ p → s.repeated ≡ Some r → r.next.0 < t
      → moved_on s t ≡ moved_on (stepped s) t
  moved_first s r t is_p is early =
      rw (is, is_p) (rw (beat_next r.next.0 t early) (rw (one_beat r.next.0 t early) (ap
      (λ x. record {
        mode = s.mode;
        period = p;
        repeated = Some (record { message = r.message; next = record { 0 = beat_from p (r.next.0 + p) t } });
        spoil = x;
      }) (unless_again (beats_before p (r.next.0 + p) t)))))

  -- a stretch without a message
  pub none_before : (m : _) (spoil : _) (o : Option Repeated) (t : ℕ) → ((r : Repeated) → o ≡ Some r → t ≤ r.next.0)
      → train_before m p spoil t o ≡ []
  unfolding train
  none_before m spoil None t late = refl
  none_before m spoil (Some r) t late = rw (no_beat r.next.0 t (late r refl)) refl

  pub none_delayed : (o : Option Repeated) (t : ℕ) → ((r : Repeated) → o ≡ Some r → t ≤ r.next.0) → delayed p t o ≡ o
  none_delayed None t late = refl
  none_delayed (Some r) t late = ap (λ (n : ℕ). Some (record { message = r.message; next = record { 0 = n } })) (beat_same r.next.0 t (late r refl))

  pub none_spoil : (spoil : _) (o : Option Repeated) (t : ℕ) → ((r : Repeated) → o ≡ Some r → t ≤ r.next.0) → spoil_left p t spoil o ≡ spoil
  none_spoil spoil None t late = refl
  none_spoil spoil (Some r) t late = ap (λ (n : ℕ). unless_sent spoil n) (no_beat r.next.0 t (late r refl))
