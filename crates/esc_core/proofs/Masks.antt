-- What a step does to the mask.
use Rattle.std.proofs.Common.{◌≡◌, ◌<◌, ◌+◌, ◌-◌, ℕ, Bool, true, false, nat_lt, if◌then◌else◌, refl, arith, ◌≤◌, ◌&&◌, sym, ◌∙◌, lit≤}
use Rattle.std.proofs.lemmas.Bool.Decides.{nat_tests}
use Rattle.esc_base.specs.declared.kind.Kind.{Kind}
use Rattle.timer_regs.specs.Bank.{Bank}
use Rattle.interrupt_machine.specs.Did.{accessed}
use Rattle.esc_core.specs.Brain.{Brain}
use Rattle.esc_core.specs.Stepped.{Stepped}
use Rattle.esc_core.specs.Firmware.{need_of, counted_down}
use Rattle.std.proofs.lemmas.Bool.{true≢false}

-- What a step does to the mask, where the place before needed it for so many steps and it could stand for so many. It stands
-- for 8 steps at most, long enough for the handler to lower it, and is down after a return; each step under it takes one.
-- A place that stands under the mask is reached under it alone.
pub record Masks (k : Kind) (need hold : ℕ) (b : Bank) (s : Stepped) : Type 0 where
  pub most : s.core.hold ≤ 8
  pub enough : (accessed b s.access).masked ≡ true → (need_of s.core k ≤ s.core.hold) × (s.over ≡ false)
  pub less : b.masked ≡ true → (accessed b s.access).masked ≡ true → s.core.hold < hold
  pub stands : (need ≤ 8 → b.masked ≡ true) → need_of s.core k ≤ 8 → ((accessed b s.access).masked ≡ true) × (s.over ≡ false)

-- where the mask is up and the step isn't a stray one, the place stands under the mask
may_stand : (m : Bool) (hold need : ℕ) → (m && nat_lt hold need) ≡ false → m ≡ true → need ≤ hold
may_stand true hold need e f = grind (arith, nat_tests)
may_stand false hold need e f = cc

-- a place that doesn't finds it down
pub no_mask : (m : Bool) (hold need : ℕ) → need ≡ 9 → hold ≤ 8 → (m && nat_lt hold need) ≡ false → m ≡ false
no_mask true hold need nine le e = absurd (let l : need ≤ hold = may_stand true hold need e refl in omega arith)
no_mask false hold need nine le e = refl

-- the count after a masked step
counted_less : (m : Bool) (h : ℕ) → m ≡ true → 0 < h → (if m then h - 1 else h) < h
counted_less true h e l = omega arith
counted_less false h e l = cc

counted_some : (m : Bool) (h need : ℕ) → (m ≡ true → need + 1 ≤ h) → m ≡ true → need ≤ (if m then h - 1 else h)
counted_some true h need f e = let l = f refl in omega arith
counted_some false h need f e = cc

pub counted_most : (m : Bool) (h : ℕ) → h ≤ 8 → (if m then h - 1 else h) ≤ 8
counted_most true h l = omega arith
counted_most false h l = l

-- A step under the mask that leaves it, and takes its handler to a place from which the mask stands for fewer steps.
pub under_mask : (k : Kind) (need : ℕ) (c : Brain) (b : Bank) (s : Stepped) → s.core.hold ≡ (counted_down c b).hold → (accessed b s.access).masked ≡ b.masked
    → s.over ≡ false → need_of s.core k < need → need ≤ 8 → c.hold ≤ 8 → (b.masked && nat_lt c.hold need) ≡ false → Masks k need c.hold b s
under_mask k need c b s hold same goes fewer most le e = record {
  most = rw hold (counted_most b.masked c.hold le);
  enough = λ m. (
    rw hold (counted_some b.masked c.hold (need_of s.core k) (λ up. let stand = may_stand b.masked c.hold need e up in omega arith) (sym same ∙ m)),
    goes,
  );
  less = λ m m'. rw hold (counted_less b.masked c.hold m (let stand = may_stand b.masked c.hold need e m in omega arith));
  stands = λ f l. (same ∙ f most, goes);
}

-- the step that lowers it
pub lowers_mask : (k : Kind) (need : ℕ) (c : Brain) (b : Bank) (s : Stepped) → s.core.hold ≡ (counted_down c b).hold → (accessed b s.access).masked ≡ false
    → need_of s.core k ≡ 9 → c.hold ≤ 8 → Masks k need c.hold b s
lowers_mask k need c b s hold down nine le = record {
  most = rw hold (counted_most b.masked c.hold le);
  enough = λ m. absurd (true≢false (sym m ∙ down));
  less = λ m m'. absurd (true≢false (sym m' ∙ down));
  stands = λ f l. absurd (omega arith);
}

-- the step that raises it
pub raises_mask : (k : Kind) (c : Brain) (b : Bank) (s : Stepped) → s.core.hold ≡ 8 → (accessed b s.access).masked ≡ true → s.over ≡ false
    → need_of s.core k ≤ 8 → c.hold ≤ 8 → (b.masked && nat_lt c.hold 9) ≡ false → Masks k 9 c.hold b s
raises_mask k c b s hold up goes stand le e =
    let down = no_mask b.masked c.hold 9 refl le e in
    record {
      most = rw hold (lit≤ tt);
      enough = λ m. (rw hold stand, goes);
      less = λ m m'. absurd (true≢false (sym m ∙ down));
      stands = λ f l. (up, goes);
    }

-- a step where it is down, and stays down
pub without_mask : (k : Kind) (c : Brain) (b : Bank) (s : Stepped) → s.core.hold ≡ (counted_down c b).hold → (accessed b s.access).masked ≡ b.masked
    → need_of s.core k ≡ 9 → c.hold ≤ 8 → (b.masked && nat_lt c.hold 9) ≡ false → Masks k 9 c.hold b s
without_mask k c b s hold same nine le e = lowers_mask k 9 c b s hold (same ∙ no_mask b.masked c.hold 9 refl le e) nine le
