-- The steps of UART: it takes the serial byte that waits, and pushes it.
use Rattle.std.specs.Prelude.{ℕ, Bool, true, false, ◌==◌, [], ◌∷◌, length}
use Rattle.esc_base.specs.declared.note.Note.TheVariants as note
use Rattle.esc_base.specs.Numbers.{as_tick}
use Rattle.timer_regs.specs.Bank.{Bank}
use Rattle.timer_regs.specs.Uart.{is_full, received_at, received_byte}
use Rattle.timer_regs.specs.declared.regs.Reg.TheVariants as reg
use Rattle.interrupt_machine.specs.Did.{Reads}
use Rattle.fourway_packet.specs.Queue.{queued}
use Rattle.esc_core.specs.declared.state.UartAt.{UartAt}
use Rattle.esc_core.specs.declared.state.UartAt.TheVariants as uart
use Rattle.esc_core.specs.Brain.{Brain}
use Rattle.esc_core.specs.Stepped.{Stepped, goes_on, goes_back}

-- UART goes by what waits now, and not by why it was entered
abbrev pub see_step : Bool → Brain → Stepped
see_step true c = goes_on (record c { uart_at = uart.Time }) (Reads reg.UartState)
see_step false c = goes_on (record c { uart_at = uart.Back }) (Reads reg.UartState)

-- the byte is pushed in the step that reads it, with the tick at which it arrived; it is lost where 512 wait
abbrev pub push_step : Bool → ℕ → Brain → Bank → Stepped
push_step true t c b = record {
  core = record c { uart_at = uart.Back };
  access = Reads reg.UartData;
  notes = note.Dropped (as_tick b.time) (received_byte b.receive) ∷ [];
  over = false;
}
push_step false t c b =
    goes_on
    (record c {
      line = record c.line { packets = queued c.line.packets (record { t = as_tick t; byte = received_byte b.receive }) };
      uart_at = uart.Back;
    })
    (Reads reg.UartData)

abbrev pub uart_step : UartAt → Brain → Bank → Stepped
uart_step uart.Look c b = see_step (is_full b.receive) c
uart_step uart.Time c b = goes_on (record c { uart_at = uart.Data (received_at b.receive) }) (Reads reg.UartTime)
uart_step (uart.Data t) c b = push_step (length c.line.packets.waiting == 512) t c b
uart_step uart.Back c b = goes_back (record c { uart_at = uart.Shut })
uart_step uart.Shut c b = goes_back (record c { uart_at = uart.Shut })
