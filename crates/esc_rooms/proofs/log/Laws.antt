-- The handlers' laws, one row each.
use Rattle.std.proofs.Common.{◌≡◌, ℕ, Bool, true, false, Option, None, refl, arith}
use Rattle.esc_base.specs.declared.event.Received.{Received}
use Rattle.timer_regs.specs.Uart.{asks_uart}
use Rattle.interrupt_machine.specs.Open.{due_now}
use Rattle.esc_rooms.specs.World.{World}
use Rattle.esc_rooms.specs.Rooms.{Tie}
use Rattle.esc_base.specs.declared.kind.Kind.{Kind}
use Rattle.esc_base.specs.declared.kind.Kind.TheVariants as kind
use Rattle.esc_rooms.proofs.shared.Law.{HandlerLaw}
use Rattle.esc_rooms.proofs.cap.Room.{cap_law}
use Rattle.esc_rooms.proofs.tick.Room.{tick_law}
use Rattle.esc_rooms.proofs.main.Room.{main_law}
use Rattle.esc_rooms.proofs.pwm.Room.{pwm_law}
use Rattle.esc_rooms.proofs.comm.Room.{comm_law}
use Rattle.esc_rooms.proofs.cmp.Room.{cmp_law}

-- UART isn't due while no byte waits and none is to be sent
uart_never_due : (receive : Option Received) (sends : Bool) (from t : ℕ) → receive ≡ None → sends ≡ false → asks_uart receive sends from t ≡ true → ⊥
uart_never_due receive sends from t none off due = let e : asks_uart receive sends from t ≡ false = rw (none, off) refl in cc

uart_not_due : (w : World) → Tie kind.Uart w → due_now w.core.orders.save_asked w.bank kind.Uart ≡ true → ⊥
uart_not_due w t due = uart_never_due w.bank.receive w.bank.sends w.bank.idle_from w.bank.time t.1 t.2 due

pub law : (k : Kind) → HandlerLaw k
law kind.Cap = cap_law
law kind.Tick = tick_law
law kind.Main = main_law
law kind.Pwm = pwm_law
law kind.Comm = comm_law
law kind.Cmp = cmp_law
law kind.Uart = record {
  called = λ w i s. cc;
  asked = λ w i. absurd (uart_not_due w (i.rest.ties kind.Uart) i.due);
  entered = λ w i. absurd (uart_not_due w (i.rest.ties kind.Uart) i.due);
  beside = λ w i. absurd (uart_not_due w (i.rest.ties kind.Uart) i.due);
  steps = λ w answers outer given i. absurd (let shut = (i.rest.ties kind.Uart).0 in omega arith);
  later = λ w u from small i. i.ties kind.Uart;
  outside = λ w e i. i.rest.ties kind.Uart;
}
