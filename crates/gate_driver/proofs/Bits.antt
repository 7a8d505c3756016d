-- Switches in a word.
use Rattle.std.proofs.Common.{◌≡◌, ◌⊎◌, inl, inr, ℕ, ◌-◌, Bool, true, false, not, ◌==◌, refl, sym, ◌∙◌, ap, arith, bit_and, bit_or}
use Rattle.std.proofs.lemmas.Nat.{and_comm, and_assoc, and_or_apart, and_or_self}
use Rattle.std.specs.Int.Bits.{and_zero_l, and_zero_r}
use Rattle.std.proofs.lemmas.Bool.Decides.{nat_tests}
use Rattle.esc_base.specs.declared.gate.Leg.{Leg}
use Rattle.esc_base.specs.declared.gate.Leg.TheVariants.{A, B, C}
use Rattle.esc_base.specs.Legs.{is_on, mask_of}

is_zero : (n : ℕ) → (n == 0) ≡ true → n ≡ 0
is_zero n e = grind (arith, nat_tests)

zero_is : (n : ℕ) → n ≡ 0 → (n == 0) ≡ true
zero_is n e = rw e refl

-- a switch that is on under a mask was on before
on_and_at : (a v m : ℕ) (t : Bool) → (bit_and a m == 0) ≡ t → not (bit_and (bit_and a v) m == 0) ≡ true → not (bit_and a m == 0) ≡ true
on_and_at a v m false f e = rw f refl
on_and_at a v m true f e =
    let z : bit_and a m ≡ 0 = is_zero (bit_and a m) f in
    let y : bit_and (bit_and a v) m ≡ 0 =
    and_assoc m a v ∙ ap (λ (w : ℕ). bit_and a w) (and_comm v m) ∙ sym (and_assoc v a m) ∙ ap (λ (w : ℕ). bit_and w v) z ∙ and_zero_l v in
    absurd (let p = zero_is _ y in cc)

pub on_and : (a v : ℕ) (x : Leg) → is_on (bit_and a v) x ≡ true → is_on a x ≡ true
on_and a v x e = on_and_at a v (mask_of x) (bit_and a (mask_of x) == 0) refl e

none_kept : (a : ℕ) (h x : Leg) → bit_and (mask_of h) (mask_of x) ≡ 0 → is_on (bit_and a (mask_of h)) x ≡ true → ⊥
none_kept a h x z e =
    let y : bit_and (bit_and a (mask_of h)) (mask_of x) ≡ 0 = and_assoc (mask_of x) a (mask_of h) ∙ ap (λ (w : ℕ). bit_and a w) z ∙ and_zero_r a in
    let p = zero_is _ y in cc

-- under the mask of one leg no other leg's switch is on
kept_is : (a : ℕ) (h x : Leg) → is_on (bit_and a (mask_of h)) x ≡ true → h ≡ x
kept_is a A A e = refl
kept_is a A B e = absurd (none_kept a A B refl e)
kept_is a A C e = absurd (none_kept a A C refl e)
kept_is a B A e = absurd (none_kept a B A refl e)
kept_is a B B e = refl
kept_is a B C e = absurd (none_kept a B C refl e)
kept_is a C A e = absurd (none_kept a C A refl e)
kept_is a C B e = absurd (none_kept a C B refl e)
kept_is a C C e = refl

-- with all others turned off a word has this leg's switch at most
pub only_kept : (a : ℕ) (h x : Leg) → is_on (bit_and a (7 - (7 - mask_of h))) x ≡ true → h ≡ x
only_kept a A x e = kept_is a A x e
only_kept a B x e = kept_is a B x e
only_kept a C x e = kept_is a C x e

zero_off : (y : Leg) → is_on 0 y ≡ false
zero_off A = refl
zero_off B = refl
zero_off C = refl

-- with all turned off none is on
pub all_off : (a : ℕ) (x : Leg) → is_on (bit_and a 0) x ≡ false
all_off a x = ap (λ (w : ℕ). is_on w x) (and_zero_r a) ∙ zero_off x

-- to set one leg's switch leaves the others
or_other : (x y : Leg) (a : ℕ) → bit_and (mask_of x) (mask_of y) ≡ 0 → is_on (bit_or a (mask_of x)) y ≡ is_on a y
or_other x y a e = ap (λ (w : ℕ). not (w == 0)) (and_or_apart (mask_of y) a (mask_of x) e)

some_on : (y : Leg) → not (mask_of y == 0) ≡ true
some_on A = refl
some_on B = refl
some_on C = refl

pub or_on : (a : ℕ) (h : Leg) → is_on (bit_or a (mask_of h)) h ≡ true
or_on a h = ap (λ (w : ℕ). not (w == 0)) (and_or_self (mask_of h) a) ∙ some_on h

-- and turns on none but that one
pub or_is : (a : ℕ) (h x : Leg) → is_on (bit_or a (mask_of h)) x ≡ true → (h ≡ x) ⊎ (is_on a x ≡ true)
or_is a A A e = inl refl
or_is a A B e = inr (sym (or_other A B a refl) ∙ e)
or_is a A C e = inr (sym (or_other A C a refl) ∙ e)
or_is a B A e = inr (sym (or_other B A a refl) ∙ e)
or_is a B B e = inl refl
or_is a B C e = inr (sym (or_other B C a refl) ∙ e)
or_is a C A e = inr (sym (or_other C A a refl) ∙ e)
or_is a C B e = inr (sym (or_other C B a refl) ∙ e)
or_is a C C e = inl refl

pub off_is : (v : Bool) → (v ≡ true → ⊥) → v ≡ false
off_is true f = absurd (f refl)
off_is false f = refl
