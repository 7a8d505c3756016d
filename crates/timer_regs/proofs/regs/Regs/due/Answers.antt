use Rattle.std.proofs.Common.{◌∙◌, arith}
use Rattle.esc_base.specs.declared.kind.Kind.TheVariants as kinds
use Rattle.timer_regs.proofs.Soonest.{or_left_only}
use Rattle.timer_regs.proofs.regs.Regs.due.Goals as goal

-- each kind was added once, and stays as the kinds after it are added
pub returns : goal.returns
returns c = elim [
  | kinds.Main ↦
      c.with-6.ensures.others kinds.Main (λ e. omega arith)
      ∙ c.with-5.ensures.others kinds.Main (λ e. omega arith)
      ∙ c.with-4.ensures.others kinds.Main (λ e. omega arith)
      ∙ c.with-3.ensures.others kinds.Main (λ e. omega arith)
      ∙ c.with-2.ensures.others kinds.Main (λ e. omega arith)
      ∙ c.with.ensures.others kinds.Main (λ e. omega arith)
      ∙ c.none.ensures kinds.Main
  | kinds.Uart ↦
      c.with-6.ensures.added
      ∙ or_left_only _ _ (
      c.with-5.ensures.others kinds.Uart (λ e. omega arith)
      ∙ c.with-4.ensures.others kinds.Uart (λ e. omega arith)
      ∙ c.with-3.ensures.others kinds.Uart (λ e. omega arith)
      ∙ c.with-2.ensures.others kinds.Uart (λ e. omega arith)
      ∙ c.with.ensures.others kinds.Uart (λ e. omega arith)
      ∙ c.none.ensures kinds.Uart)
      ∙ c.uart_due.ensures
  | kinds.Tick ↦
      c.with-6.ensures.others kinds.Tick (λ e. omega arith)
      ∙ c.with-5.ensures.others kinds.Tick (λ e. omega arith)
      ∙ c.with-4.ensures.others kinds.Tick (λ e. omega arith)
      ∙ c.with-3.ensures.others kinds.Tick (λ e. omega arith)
      ∙ c.with-2.ensures.others kinds.Tick (λ e. omega arith)
      ∙ c.with.ensures.added
      ∙ or_left_only _ _ (c.none.ensures kinds.Tick)
      ∙ c.tick_due.ensures
  | kinds.Cap ↦
      c.with-6.ensures.others kinds.Cap (λ e. omega arith)
      ∙ c.with-5.ensures.others kinds.Cap (λ e. omega arith)
      ∙ c.with-4.ensures.others kinds.Cap (λ e. omega arith)
      ∙ c.with-3.ensures.others kinds.Cap (λ e. omega arith)
      ∙ c.with-2.ensures.added
      ∙ or_left_only _ _ (c.with.ensures.others kinds.Cap (λ e. omega arith) ∙ c.none.ensures kinds.Cap)
      ∙ c.cap_due.ensures
  | kinds.Cmp ↦
      c.with-6.ensures.others kinds.Cmp (λ e. omega arith)
      ∙ c.with-5.ensures.others kinds.Cmp (λ e. omega arith)
      ∙ c.with-4.ensures.others kinds.Cmp (λ e. omega arith)
      ∙ c.with-3.ensures.added
      ∙ or_left_only _ _ (c.with-2.ensures.others kinds.Cmp (λ e. omega arith) ∙ c.with.ensures.others kinds.Cmp (λ e. omega arith) ∙ c.none.ensures kinds.Cmp)
      ∙ c.cmp_due.ensures
  | kinds.Pwm ↦
      c.with-6.ensures.others kinds.Pwm (λ e. omega arith)
      ∙ c.with-5.ensures.others kinds.Pwm (λ e. omega arith)
      ∙ c.with-4.ensures.added
      ∙ or_left_only _ _ (
      c.with-3.ensures.others kinds.Pwm (λ e. omega arith)
      ∙ c.with-2.ensures.others kinds.Pwm (λ e. omega arith)
      ∙ c.with.ensures.others kinds.Pwm (λ e. omega arith)
      ∙ c.none.ensures kinds.Pwm)
      ∙ c.pwm_due.ensures
  | kinds.Comm ↦
      c.with-6.ensures.others kinds.Comm (λ e. omega arith)
      ∙ c.with-5.ensures.added
      ∙ or_left_only _ _ (
      c.with-4.ensures.others kinds.Comm (λ e. omega arith)
      ∙ c.with-3.ensures.others kinds.Comm (λ e. omega arith)
      ∙ c.with-2.ensures.others kinds.Comm (λ e. omega arith)
      ∙ c.with.ensures.others kinds.Comm (λ e. omega arith)
      ∙ c.none.ensures kinds.Comm)
      ∙ c.comm_due.ensures
]
