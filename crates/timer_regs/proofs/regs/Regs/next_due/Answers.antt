use Rattle.timer_regs.proofs.Soonest.{soonest}
use Rattle.timer_regs.proofs.regs.Regs.next_due.Goals as goal

pub returns : goal.returns
returns c =
    rw (c.sooner.ensures, c.sooner-middle.ensures, c.sooner-lower.ensures, c.sooner-top.ensures, c.sooner-upper.ensures)
    (soonest c.args.self.now _ _ _ _ _ _ c.next_tick.ensures c.next_cap.ensures c.next_cmp.ensures c.next_pwm.ensures c.next_comm.ensures c.next_uart.ensures)
