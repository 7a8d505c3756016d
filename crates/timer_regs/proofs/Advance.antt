-- Time that goes on by nothing leaves the registers as they are.
use Rattle.std.proofs.Common.{◌≡◌, ℕ, Bool, true, false, ◌&&◌, ◌||◌, nat_lt, refl, sym, ap, arith}
use Rattle.std.proofs.lemmas.Bool.Decides.{nat_tests}
use Rattle.timer_regs.specs.Bank.{Bank}
use Rattle.timer_regs.specs.Effects.{advanced}
use Rattle.esc_base.specs.Periods.{edges}

not_below : (n : ℕ) → nat_lt n n ≡ false
not_below n = grind (arith, nat_tests)

none : (flag some lower : Bool) → lower ≡ false → flag ≡ (flag || (some && lower))
none true some lower e = refl
none false true lower e = sym e
none false false lower e = refl

pub advanced-now : (b : Bank) → b ≡ advanced b b.time
advanced-now b =
    ap (λ (f : Bool). record b { flag = f })
    (none b.flag (nat_lt 0 b.duty) (nat_lt (edges b.duty b.time) (edges b.duty b.time)) (not_below (edges b.duty b.time)))
