-- The steps of PWM: how far each takes the activation, and what it does to the mask.
use Rattle.std.proofs.Common.{◌≡◌, ◌<◌, ◌+◌, ℕ, false, nat_lt, Option, Some, None, [], refl, arith, lit<, ◌≤◌, ◌&&◌, lit≤}
use Rattle.esc_base.specs.declared.gate.Leg.{Leg}
use Rattle.esc_base.specs.declared.kind.Kind.TheVariants as kind
use Rattle.timer_regs.specs.Bank.{Bank}
use Rattle.interrupt_machine.specs.Did.{Access}
use Rattle.gate_driver.specs.declared.chop.Chop.{Chop}
use Rattle.gate_driver.specs.declared.chop.Chop.TheVariants as chop
use Rattle.gate_driver.specs.Gated.{Gated, high_wait}
use Rattle.gate_driver.specs.Chop.{on_step, chop_left}
use Rattle.esc_core.specs.declared.state.PwmAt.{PwmAt}
use Rattle.esc_core.specs.declared.state.PwmAt.TheVariants as pwm
use Rattle.esc_core.specs.Brain.{Brain}
use Rattle.esc_core.specs.Pwm.{chopped, pwm_step}
use Rattle.esc_core.specs.Firmware.{pwm_left, pwm_need, counted_down}
use Rattle.esc_core.proofs.Moves.{Moves}
use Rattle.esc_core.proofs.Masks.{Masks, under_mask, lowers_mask, raises_mask, without_mask}

pwm_goes : (left : ℕ) (at : PwmAt) (hold : ℕ) (g : Gated) (by : Access) (c : Brain) → pwm_left at < left → 0 < pwm_left at
    → Moves kind.Pwm left c (record {
      core = record c { drive = record c.drive { gates = g }; hold = hold; pwm_at = at };
      access = by;
      notes = [];
      over = false;
    })
pwm_goes left at hold g by c less more = record {
  less = less;
  more = λ e. more;
  shut = λ e. cc;
  others = elim [ kind.Pwm ↦ λ ne. absurd (ne refl) | j ↦ λ ne. (refl, refl) ];
}

on_moves : (wait : Option ℕ) (leg : Option Leg) (x : Leg) (c : Brain) (b : Bank)
    → Moves kind.Pwm 4 c (chopped (chop.Write leg) (on_step wait x c.drive.gates b) c)
on_moves None leg x c b = pwm_goes 4 _ _ _ _ c (lit< tt) (lit< tt)
on_moves (Some t) leg x c b = pwm_goes 4 _ _ _ _ c (lit< tt) (lit< tt)

write_moves : (leg : Option Leg) (c : Brain) (b : Bank) → Moves kind.Pwm 4 c (pwm_step (pwm.Run (chop.Write leg)) c b)
write_moves (Some x) c b = on_moves (high_wait c.drive.gates b x) (Some x) x c b
write_moves None c b = pwm_goes 4 _ _ _ _ c (lit< tt) (lit< tt)

chop_moves : (at : Chop) (c : Brain) (b : Bank) → Moves kind.Pwm (chop_left at + 2) c (pwm_step (pwm.Run at) c b)
chop_moves chop.Raise c b = pwm_goes 8 _ _ _ _ c (lit< tt) (lit< tt)
chop_moves chop.Position c b = pwm_goes 7 _ _ _ _ c (lit< tt) (lit< tt)
chop_moves (chop.Duty position) c b = pwm_goes 6 _ _ _ _ c (lit< tt) (lit< tt)
chop_moves (chop.Sector below) c b = pwm_goes 5 _ _ _ _ c (lit< tt) (lit< tt)
chop_moves (chop.Write leg) c b = write_moves leg c b
chop_moves chop.Lower c b = pwm_goes 3 _ _ _ _ c (lit< tt) (lit< tt)
chop_moves chop.Over c b = pwm_goes 2 _ _ _ _ c (lit< tt) (lit< tt)

pub pwm_moves : (at : PwmAt) (c : Brain) (b : Bank) → 0 < pwm_left at → Moves kind.Pwm (pwm_left at) c (pwm_step at c b)
pwm_moves pwm.Shut c b l = absurd (omega arith)
pwm_moves (pwm.Run at) c b l = chop_moves at c b
pwm_moves pwm.Back c b l = record {
  less = lit< tt;
  more = λ e. cc;
  shut = λ e. refl;
  others = elim [ kind.Pwm ↦ λ ne. absurd (ne refl) | j ↦ λ ne. (refl, refl) ];
}

-- ---- the mask

on_masks : (wait : Option ℕ) (leg : Option Leg) (x : Leg) (c : Brain) (b : Bank) → c.hold ≤ 8 → (b.masked && nat_lt c.hold 2) ≡ false
    → Masks kind.Pwm 2 c.hold b (chopped (chop.Write leg) (on_step wait x c.drive.gates b) (counted_down c b))
on_masks None leg x c b le e = under_mask kind.Pwm 2 c b _ refl refl refl (lit< tt) (lit≤ tt) le e
on_masks (Some t) leg x c b le e = under_mask kind.Pwm 2 c b _ refl refl refl (lit< tt) (lit≤ tt) le e

write_masks : (leg : Option Leg) (c : Brain) (b : Bank) → c.hold ≤ 8 → (b.masked && nat_lt c.hold 2) ≡ false
    → Masks kind.Pwm 2 c.hold b (pwm_step (pwm.Run (chop.Write leg)) (counted_down c b) b)
write_masks (Some x) c b le e = on_masks (high_wait c.drive.gates b x) (Some x) x c b le e
write_masks None c b le e = under_mask kind.Pwm 2 c b _ refl refl refl (lit< tt) (lit≤ tt) le e

pub pwm_masks : (at : PwmAt) (c : Brain) (b : Bank) → 0 < pwm_left at → c.hold ≤ 8 → (b.masked && nat_lt c.hold (pwm_need at)) ≡ false
    → Masks kind.Pwm (pwm_need at) c.hold b (pwm_step at (counted_down c b) b)
pwm_masks pwm.Shut c b l le e = absurd (omega arith)
pwm_masks (pwm.Run chop.Raise) c b l le e = raises_mask kind.Pwm c b _ refl refl refl (lit≤ tt) le e
pwm_masks (pwm.Run chop.Position) c b l le e = under_mask kind.Pwm 5 c b _ refl refl refl (lit< tt) (lit≤ tt) le e
pwm_masks (pwm.Run (chop.Duty position)) c b l le e = under_mask kind.Pwm 4 c b _ refl refl refl (lit< tt) (lit≤ tt) le e
pwm_masks (pwm.Run (chop.Sector below)) c b l le e = under_mask kind.Pwm 3 c b _ refl refl refl (lit< tt) (lit≤ tt) le e
pwm_masks (pwm.Run (chop.Write leg)) c b l le e = write_masks leg c b le e
pwm_masks (pwm.Run chop.Lower) c b l le e = lowers_mask kind.Pwm 1 c b _ refl refl refl le
pwm_masks (pwm.Run chop.Over) c b l le e = without_mask kind.Pwm c b _ refl refl refl le e
pwm_masks pwm.Back c b l le e = without_mask kind.Pwm c b _ refl refl refl le e
