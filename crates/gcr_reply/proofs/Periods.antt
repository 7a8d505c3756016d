-- The twelve bits of a period, and the check nibble.
use Rattle.std.proofs.Common.{◌≡◌, ◌<◌, ◌≤◌, ⊎_elim, ℕ, zero, suc, ◌+◌, ◌-◌, ◌*◌, ◌/◌, ◌%◌, ◌^◌, Bool, true, false, nat_le, if◌then◌else◌, Option, Some, None, refl, ap, sym, ◌∙◌, arith, below_more, lit<}
use Rattle.std.specs.Prelude.{bit_and, bit_or, bit_xor, MatchBool}
use Rattle.std.specs.Int.Bits.{xor_assoc, xor_self, xor_zero_l}
use Rattle.std.proofs.lemmas.Bool.{leb-true, leb-false, cases_lt, cases_order}
use Rattle.std.proofs.lemmas.Nat.{and_mask, or_shifted, shr-shr, shr_le, xor_comm, xor_mod, xor_lt}
use Rattle.gcr_reply.specs.Period.{IsExponent, IsShort, Tells, IsPayload}
use Rattle.gcr_reply.specs.Reply.{first_fit, short_of, twelve_of, check_of}

-- ---- the exponent

-- a period that was halved so often, each time because it was above 511
pub record IsHalved (exponent quotient period : ℕ) : Type 0 where
  pub small : exponent ≤ 7
  pub quotient_is : quotient ≡ period / 2 ^ exponent
  pub above : (d : ℕ) → d < exponent → 511 < period / 2 ^ d

halved : (e period : ℕ) → period / 2 ^ e / 2 ≡ period / 2 ^ (e + 1)
halved e period = shr-shr period e 1

-- seven halvings are enough
enough : (e period : ℕ) → period < 65408 → 7 ≤ e → period / 2 ^ e ≤ 511
enough e period h le =
    let more : e ≡ 7 + (e - 7) = omega arith in
    let seven : period / 128 ≤ 511 = omega arith in
    let after : period / 128 / 2 ^ (e - 7) ≡ period / 2 ^ (7 + (e - 7)) = shr-shr period 7 (e - 7) in
    let fewer : period / 128 / 2 ^ (e - 7) ≤ period / 128 = shr_le (period / 128) (e - 7) in
    rw (more, ← after) (omega arith)

pub few : (e period : ℕ) → period < 65408 → IsExponent e period → e ≤ 7
few e period h x =
    ⊎_elim
    (λ lt. let above = x.least 7 lt in let most : period / 128 ≤ 511 = omega arith in absurd (omega arith))
    (λ le. le)
    (cases_lt 7 e)

pub more_halved : (exponent quotient period : ℕ) → period < 65408 → 511 < quotient → IsHalved exponent quotient period
    → IsHalved (exponent + 1) (quotient / 2) period
more_halved exponent quotient period h lt s =
    let here : 511 < period / 2 ^ exponent = rw (← s.quotient_is) lt in
    record {
      small = ⊎_elim (λ below. omega arith) (λ le. let most = enough exponent period h le in absurd (omega arith)) (cases_lt exponent 7);
      quotient_is = ap (λ (q : ℕ). q / 2) s.quotient_is ∙ halved exponent period;
      above = below_more (λ (d : ℕ). 511 < period / 2 ^ d) exponent s.above here;
    }

pub halved_enough : (exponent quotient period : ℕ) → quotient ≤ 511 → IsHalved exponent quotient period → IsExponent exponent period
halved_enough exponent quotient period le s = record { fits = rw (← s.quotient_is) le; least = s.above }

-- the twelve bits, as the code joins them
pub joined : (exponent quotient period : ℕ) → quotient ≤ 511 → IsHalved exponent quotient period
    → (bit_or (exponent * 512 % 65536) quotient < 4096) × IsShort (bit_or (exponent * 512 % 65536) quotient) period
joined exponent quotient period le s =
    let few = s.small in
    let fits : exponent * 512 % 65536 ≡ exponent * 512 = omega arith in
    let one : bit_or (exponent * 512 % 65536) quotient ≡ exponent * 512 + quotient = rw fits (or_shifted exponent 9 quotient (omega arith)) in
    let is_least = halved_enough exponent quotient period le s in
    rw one (omega arith, record { exponent = exponent; is_least = is_least; value = ap (λ (q : ℕ). exponent * 512 + q) s.quotient_is })

same_exponent : (e f period : ℕ) → IsExponent e period → IsExponent f period → e ≡ f
same_exponent e f period a b =
    ⊎_elim (λ same. same)
    (λ other. ⊎_elim
    (λ lt. let above = b.least e lt in let most = a.fits in absurd (omega arith))
    (λ lt. let above = a.least f lt in let most = b.fits in absurd (omega arith))
    other)
    (cases_order e f)

fits_first : (k e period : ℕ) → ((d : ℕ) → d < e → 511 < period / 2 ^ d) → period / 2 ^ (e + k) ≤ 511 → IsExponent (first_fit k e period) period
fits_first zero e period above fits = let same : e + zero ≡ e = omega arith in record { fits = rw same at fits; least = above }
fits_first (suc k) e period above fits =
    let next : e + suc k ≡ suc e + k = omega arith in
    by_test (nat_le (period / 2 ^ e) 511) refl (λ above. fits_first k (suc e) period above (rw next at fits))
  where
    by_test : (b : Bool) → nat_le (period / 2 ^ e) 511 ≡ b
        → (((d : ℕ) → d < suc e → 511 < period / 2 ^ d) → IsExponent (first_fit k (suc e) period) period)
        → IsExponent (if b then e else first_fit k (suc e) period) period
    by_test true t more = record { fits = leb-true (period / 2 ^ e) 511 t; least = above }
    by_test false t more =
        let plus : suc e ≡ e + 1 = omega arith in
        more (rw plus (below_more (λ (d : ℕ). 511 < period / 2 ^ d) e above (leb-false (period / 2 ^ e) 511 t)))

-- ---- the twelve bits

-- a period tells its twelve bits
pub same_twelve : (a b : ℕ) (period : Option ℕ) → Tells a period → Tells b period → a ≡ b
same_twelve a b None s t = s ∙ sym t
same_twelve a b (Some period) s t = by_test (nat_le 65408 period) s t
  where
    by_test : (long : Bool) → MatchBool long (a ≡ 0xFFF) (IsShort a period) → MatchBool long (b ≡ 0xFFF) (IsShort b period) → a ≡ b
    by_test true s t = s ∙ sym t
    by_test false s t =
        let same = same_exponent s.exponent t.exponent period s.is_least t.is_least in
        s.value ∙ ap (λ (e : ℕ). e * 512 + period / 2 ^ e) same ∙ sym t.value

none_before : (period d : ℕ) → d < 0 → 511 < period / 2 ^ d
none_before period d h = absurd (omega arith)

short_told : (period : ℕ) → period < 65408 → (short_of (first_fit 7 0 period) period < 4096) × IsShort (short_of (first_fit 7 0 period) period) period
short_told period h =
    let e : ℕ = first_fit 7 0 period in
    let least : IsExponent e period = fits_first 7 0 period (none_before period) (omega arith) in
    let most = least.fits in
    let small = few e period h least in
    (omega arith, record { exponent = e; is_least = least; value = refl })

pub twelve_told : (period : Option ℕ) → (twelve_of period < 4096) × Tells (twelve_of period) period
twelve_told None = (lit< tt, refl)
twelve_told (Some period) = by_test (nat_le 65408 period) refl
  where
    by_test : (long : Bool) → nat_le 65408 period ≡ long
        → ((if long then 0xFFF else short_of (first_fit 7 0 period) period) < 4096)
        × MatchBool long ((if long then 0xFFF else short_of (first_fit 7 0 period) period) ≡ 0xFFF)
        (IsShort (if long then 0xFFF else short_of (first_fit 7 0 period) period) period)
    by_test true t = (lit< tt, refl)
    by_test false t = short_told period (leb-false 65408 period t)

-- ---- the check nibble

pub check_is : (twelve : ℕ) → bit_and (bit_xor (bit_xor (bit_xor twelve (twelve / 16)) (twelve / 256)) 15) 15 ≡ check_of twelve
check_is t =
    and_mask (bit_xor (bit_xor (bit_xor t (t / 16)) (t / 256)) 15) 4
    ∙ xor_mod (bit_xor (bit_xor t (t / 16)) (t / 256)) 15 4
    ∙ ap (λ (n : ℕ). bit_xor n 15) (xor_mod (bit_xor t (t / 16)) (t / 256) 4 ∙ ap (λ (n : ℕ). bit_xor n (t / 256 % 16)) (xor_mod t (t / 16) 4))

pub check_small : (twelve : ℕ) → check_of twelve < 16
check_small t =
    let a : t % 16 < 16 = omega arith in
    let b : t / 16 % 16 < 16 = omega arith in
    let c : t / 256 % 16 < 16 = omega arith in
    xor_lt 4 _ 15 (xor_lt 4 _ _ (xor_lt 4 _ _ a b) c) (lit< tt)

-- it makes the exclusive or 15
checks : (a b c : ℕ) → bit_xor (bit_xor (bit_xor (bit_xor 0 a) b) c) (bit_xor (bit_xor (bit_xor c b) a) 15) ≡ 15
checks a b c =
    let s : ℕ = bit_xor (bit_xor a b) c in
    let turned : bit_xor (bit_xor c b) a ≡ s = xor_comm (bit_xor c b) a ∙ ap (bit_xor a) (xor_comm c b) ∙ sym (xor_assoc a b c) in
    let start : bit_xor 0 a ≡ a = xor_zero_l a in
    rw (start, turned) (sym (xor_assoc s s 15) ∙ ap (λ (n : ℕ). bit_xor n 15) (xor_self s) ∙ xor_zero_l 15)

-- the word, as the code joins it
pub word_is : (twelve : ℕ) → twelve < 4096 → bit_or (twelve * 16 % 65536) (check_of twelve) ≡ twelve * 16 + check_of twelve
word_is t h = let fits : t * 16 % 65536 ≡ t * 16 = omega arith in rw fits (or_shifted t 4 (check_of t) (check_small t))

pub payload_told : (twelve : ℕ) (period : Option ℕ) → twelve < 4096 → Tells twelve period
    → (twelve * 16 + check_of twelve < 65536) × IsPayload (twelve * 16 + check_of twelve) period
payload_told t period h told =
    let k : ℕ = check_of t in
    let small : k < 16 = check_small t in
    let word : ℕ = t * 16 + k in
    let upper : word / 16 ≡ t = omega arith in
    let a : word / 4096 % 16 ≡ t / 256 % 16 = omega arith in
    let b : word / 256 % 16 ≡ t / 16 % 16 = omega arith in
    let c : word / 16 % 16 ≡ t % 16 = omega arith in
    let d : word % 16 ≡ k = omega arith in (
      omega arith,
      record {
        tells = rw upper told;
        check = rw (a, b, c, d) (checks (t / 256 % 16) (t / 16 % 16) (t % 16));
      },
    )

xor_cancel : (s a b : ℕ) → bit_xor s a ≡ bit_xor s b → a ≡ b
xor_cancel s a b e = sym (xor_first s a) ∙ ap (bit_xor s) e ∙ xor_first s b
  where
    xor_first : (s a : ℕ) → bit_xor s (bit_xor s a) ≡ a
    xor_first s a = sym (xor_assoc s s a) ∙ ap (λ (n : ℕ). bit_xor n a) (xor_self s) ∙ xor_zero_l a

-- a period tells its word
pub same_payload : (v w : ℕ) (period : Option ℕ) → IsPayload v period → IsPayload w period → v ≡ w
same_payload v w period p q =
    let upper : v / 16 ≡ w / 16 = same_twelve (v / 16) (w / 16) period p.tells q.tells in
    let a : v / 4096 % 16 ≡ w / 4096 % 16 = omega arith in
    let b : v / 256 % 16 ≡ w / 256 % 16 = omega arith in
    let c : v / 16 % 16 ≡ w / 16 % 16 = omega arith in
    let turned : bit_xor (bit_xor (bit_xor (bit_xor 0 (w / 4096 % 16)) (w / 256 % 16)) (w / 16 % 16)) (v % 16) ≡ 15 = rw (a, b, c) at p.check in
    let low : v % 16 ≡ w % 16 =
    xor_cancel (bit_xor (bit_xor (bit_xor 0 (w / 4096 % 16)) (w / 256 % 16)) (w / 16 % 16)) (v % 16) (w % 16) (turned ∙ sym q.check) in
    omega arith
