-- What an idle core waits for.
use Rattle.std.specs.Prelude.{◌≡◌, ◌<◌, ℕ, List, Bool, true, false}
use Rattle.esc_base.specs.declared.kind.Kind.{Kind}
use Rattle.timer_regs.specs.Bank.{Bank}
use Rattle.timer_regs.specs.NextDue.{becomes_due}
use Rattle.interrupt_machine.specs.Open.{due_now, is_idle}

-- no handler is open, nothing is due, and nothing becomes due before a tick while only time goes on
pub record IsQuiet (stack : List Kind) (waits : Bool) (b : Bank) (until : ℕ) : Type 0 where
  pub idle : is_idle stack (due_now waits b) ≡ true
  pub none : (k : Kind) (t : ℕ) → b.time < t → t < until → becomes_due b k t ≡ false
