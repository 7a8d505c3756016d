-- The first tick at which some kind becomes due is the sooner one of those of the kinds that can.
use Rattle.std.proofs.Common.{◌≡◌, ℕ, ◌<◌, ◌≤◌, Bool, true, false, ◌||◌, if◌then◌else◌, nat_lt, Option, Some, None, refl, arith}
use Rattle.std.proofs.lemmas.Bool.{or_left, or_right}
use Rattle.std.proofs.lemmas.Bool.Decides.{nat_tests}
use Rattle.esc_base.specs.declared.kind.Kind.{Kind}
use Rattle.esc_base.specs.declared.kind.Kind.TheVariants as kinds
use Rattle.timer_regs.specs.Bank.{Bank}
use Rattle.timer_regs.specs.NextDue.{becomes_due, IsFirst, IsFirstAfter, IsFirstDue, IsNextDue, sooner}

lt_not : (x y : ℕ) → nat_lt y x ≡ false → x ≤ y
lt_not x y e = grind (arith, nat_tests)

lt_is : (x y : ℕ) → nat_lt y x ≡ true → y < x
lt_is x y e = grind (arith, nat_tests)

neither : (a b : Bool) → a ≡ false → b ≡ false → (a || b) ≡ false
neither a b e f = rw (e, f) refl

abbrev either : (ℕ → Bool) → (ℕ → Bool) → ℕ → Bool
either p q u = p u || q u

of_both : (v : Bool) (now x y : ℕ) (p q : ℕ → Bool) → nat_lt y x ≡ v → IsFirst now p x → IsFirst now q y
    → IsFirstAfter now (either p q) (if v then Some y else Some x)
of_both true now x y p q e f g = record {
  later = g.later;
  due = or_right (p y) (q y) g.due;
  none_before = λ u lo hi. neither (p u) (q u) (f.none_before u lo (let l = lt_is x y e in omega arith)) (g.none_before u lo hi);
}
of_both false now x y p q e f g = record {
  later = f.later;
  due = or_left (p x) (q x) f.due;
  none_before = λ u lo hi. neither (p u) (q u) (f.none_before u lo hi) (g.none_before u lo (let l = lt_not x y e in omega arith));
}

-- the sooner of two is the first at which one of the two tests holds
first_of_both : (now : ℕ) (p q : ℕ → Bool) (x y : Option ℕ) → IsFirstAfter now p x → IsFirstAfter now q y → IsFirstAfter now (either p q) (sooner x y)
first_of_both now p q None None f g = λ u lo. neither (p u) (q u) (f u lo) (g u lo)
first_of_both now p q None (Some y) f g = record {
  later = g.later;
  due = or_right (p y) (q y) g.due;
  none_before = λ u lo hi. neither (p u) (q u) (f u lo) (g.none_before u lo hi);
}
first_of_both now p q (Some x) None f g = record {
  later = f.later;
  due = or_left (p x) (q x) f.due;
  none_before = λ u lo hi. neither (p u) (q u) (f.none_before u lo hi) (g u lo);
}
first_of_both now p q (Some x) (Some y) f g = of_both (nat_lt y x) now x y p q refl f g

-- some kind becomes due
abbrev some_due : Bank → ℕ → Bool
some_due b u =
    either (either (either (becomes_due b kinds.Tick) (becomes_due b kinds.Cap)) (becomes_due b kinds.Cmp))
    (either (either (becomes_due b kinds.Pwm) (becomes_due b kinds.Comm)) (becomes_due b kinds.Uart)) u

left_none : (a b : Bool) → (a || b) ≡ false → a ≡ false
left_none true b e = e
left_none false b e = refl

right_none : (a b : Bool) → (a || b) ≡ false → b ≡ false
right_none true b e = absurd (cc)
right_none false b e = e

none_due : (b : Bank) (k : Kind) (u : ℕ) → some_due b u ≡ false → becomes_due b k u ≡ false
none_due b kinds.Tick u e = left_none _ _ (left_none _ _ (left_none _ _ e))
none_due b kinds.Cap u e = right_none _ _ (left_none _ _ (left_none _ _ e))
none_due b kinds.Cmp u e = right_none _ _ (left_none _ _ e)
none_due b kinds.Pwm u e = left_none _ _ (left_none _ _ (right_none _ _ e))
none_due b kinds.Comm u e = right_none _ _ (left_none _ _ (right_none _ _ e))
none_due b kinds.Uart u e = right_none _ _ (right_none _ _ e)
none_due b kinds.Main u e = refl

which_due : (b : Bank) (u : ℕ) (t c z p m : Bool) → becomes_due b kinds.Tick u ≡ t → becomes_due b kinds.Cap u ≡ c → becomes_due b kinds.Cmp u ≡ z
    → becomes_due b kinds.Pwm u ≡ p → becomes_due b kinds.Comm u ≡ m → (((t || c) || z) || ((p || m) || becomes_due b kinds.Uart u)) ≡ true
    → (k : Kind) × (becomes_due b k u ≡ true)
which_due b u true c z p m et ec ez ep em e = (kinds.Tick, et)
which_due b u false true z p m et ec ez ep em e = (kinds.Cap, ec)
which_due b u false false true p m et ec ez ep em e = (kinds.Cmp, ez)
which_due b u false false false true m et ec ez ep em e = (kinds.Pwm, ep)
which_due b u false false false false true et ec ez ep em e = (kinds.Comm, em)
which_due b u false false false false false et ec ez ep em e = (kinds.Uart, e)

next_of : (b : Bank) (at : Option ℕ) → IsFirstAfter b.time (some_due b) at → IsNextDue b at
next_of b None f = λ k u lo. none_due b k u (f u lo)
next_of b (Some t) f =
    let which = which_due b t _ _ _ _ _ refl refl refl refl refl f.due in
    record {
      later = f.later;
      kind = which.0;
      due = which.1;
      none_before = λ k u lo hi. none_due b k u (f.none_before u lo hi);
    }

pub soonest : (b : Bank) (t c z p m s : Option ℕ) → IsFirstDue b kinds.Tick t → IsFirstDue b kinds.Cap c → IsFirstDue b kinds.Cmp z
    → IsFirstDue b kinds.Pwm p → IsFirstDue b kinds.Comm m → IsFirstDue b kinds.Uart s
    → IsNextDue b (sooner (sooner (sooner t c) z) (sooner (sooner p m) s))
soonest b t c z p m s ft fc fz fp fm fs =
    let lower = first_of_both b.time _ _ t c ft fc in
    let middle = first_of_both b.time _ _ (sooner t c) z lower fz in
    let upper = first_of_both b.time _ _ p m fp fm in
    let top = first_of_both b.time _ _ (sooner p m) s upper fs in
    next_of b (sooner (sooner (sooner t c) z) (sooner (sooner p m) s)) (first_of_both b.time _ _ (sooner (sooner t c) z) (sooner (sooner p m) s) middle top)

pub or_left_only : (a b : Bool) → b ≡ false → (a || b) ≡ a
or_left_only true b e = refl
or_left_only false b e = e
