-- The steps of UART: how far each takes the activation.
use Rattle.std.proofs.Common.{◌<◌, ℕ, Bool, true, false, ◌==◌, length, refl, arith, lit<}
use Rattle.esc_base.specs.declared.kind.Kind.TheVariants as kind
use Rattle.timer_regs.specs.Bank.{Bank}
use Rattle.esc_core.specs.declared.state.UartAt.{UartAt}
use Rattle.esc_core.specs.declared.state.UartAt.TheVariants as uart
use Rattle.timer_regs.specs.Uart.{is_full}
use Rattle.esc_core.specs.Uart.{see_step, push_step, uart_step}
use Rattle.esc_core.specs.Brain.{Brain}
use Rattle.esc_core.specs.Firmware.{uart_left}
use Rattle.esc_core.proofs.Moves.{PlainMoves}

see_moves : (v : Bool) (c : Brain) (b : Bank) → PlainMoves kind.Uart 4 c b (see_step v c)
see_moves true c b = record {
  moves = record { less = lit< tt; more = λ e. lit< tt; shut = λ e. cc; others = elim [ kind.Uart ↦ λ ne. absurd (ne refl) | j ↦ λ ne. (refl, refl) ] };
  masked = refl;
  hold = refl;
}
see_moves false c b = record {
  moves = record { less = lit< tt; more = λ e. lit< tt; shut = λ e. cc; others = elim [ kind.Uart ↦ λ ne. absurd (ne refl) | j ↦ λ ne. (refl, refl) ] };
  masked = refl;
  hold = refl;
}

push_moves : (v : Bool) (t : ℕ) (c : Brain) (b : Bank) → PlainMoves kind.Uart 2 c b (push_step v t c b)
push_moves true t c b = record {
  moves = record { less = lit< tt; more = λ e. lit< tt; shut = λ e. cc; others = elim [ kind.Uart ↦ λ ne. absurd (ne refl) | j ↦ λ ne. (refl, refl) ] };
  masked = refl;
  hold = refl;
}
push_moves false t c b = record {
  moves = record { less = lit< tt; more = λ e. lit< tt; shut = λ e. cc; others = elim [ kind.Uart ↦ λ ne. absurd (ne refl) | j ↦ λ ne. (refl, refl) ] };
  masked = refl;
  hold = refl;
}

pub uart_moves : (at : UartAt) (c : Brain) (b : Bank) → 0 < uart_left at → PlainMoves kind.Uart (uart_left at) c b (uart_step at c b)
uart_moves uart.Shut c b l = absurd (omega arith)
uart_moves uart.Look c b l = see_moves (is_full b.receive) c b
uart_moves uart.Time c b l = record {
  moves = record { less = lit< tt; more = λ e. lit< tt; shut = λ e. cc; others = elim [ kind.Uart ↦ λ ne. absurd (ne refl) | j ↦ λ ne. (refl, refl) ] };
  masked = refl;
  hold = refl;
}
uart_moves (uart.Data t) c b l = push_moves (length c.line.packets.waiting == 512) t c b
uart_moves uart.Back c b l = record {
  moves = record { less = lit< tt; more = λ e. cc; shut = λ e. refl; others = elim [ kind.Uart ↦ λ ne. absurd (ne refl) | j ↦ λ ne. (refl, refl) ] };
  masked = refl;
  hold = refl;
}
