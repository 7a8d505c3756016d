-- How far a step takes its activation.
use Rattle.std.proofs.Common.{◌≡◌, ◌≢◌, ◌<◌, ℕ, true, false, Option, Some, None, refl}
use Rattle.esc_base.specs.declared.kind.Kind.{Kind}
use Rattle.timer_regs.specs.Bank.{Bank}
use Rattle.interrupt_machine.specs.Did.{accessed}
use Rattle.esc_base.specs.declared.tick.Tick.{Tick}
use Rattle.esc_core.specs.Brain.{Brain}
use Rattle.esc_core.specs.Stepped.{Stepped}
use Rattle.esc_core.specs.Drive.{arms}
use Rattle.esc_core.specs.Firmware.{left_of, need_of}

-- what a step of a handler does to the places, where so many steps were left: it goes on, and touches no other handler
pub record Moves (k : Kind) (left : ℕ) (c : Brain) (s : Stepped) : Type 0 where
  pub less : left_of s.core k < left
  pub more : s.over ≡ false → 0 < left_of s.core k
  pub shut : s.over ≡ true → left_of s.core k ≡ 0
  pub others : (j : Kind) → j ≢ k → (left_of s.core j ≡ left_of c j) × (need_of s.core j ≡ need_of c j)

-- it leaves the mask too
pub record PlainMoves (k : Kind) (left : ℕ) (c : Brain) (b : Bank) (s : Stepped) : Type 0 where
  pub moves : Moves k left c s
  pub masked : (accessed b s.access).masked ≡ b.masked
  pub hold : s.core.hold ≡ c.hold

-- arming the crossing timer touches no mask
pub arms_mask : (end : Option Tick) (b : Bank) → (accessed b (arms end)).masked ≡ b.masked
arms_mask None b = refl
arms_mask (Some end) b = refl
