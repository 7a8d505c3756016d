-- What is true of the registers at all times.
use Rattle.std.specs.Prelude.{◌≡◌, ℕ, ◌+◌, ◌/◌, ◌<◌, ◌≤◌, ◌^◌, Option}
use Rattle.esc_base.specs.Times.{rest, control_period, most_duty, byte_time}
use Rattle.edge_capture.specs.Edges.{last_at}
use Rattle.timer_regs.specs.Bank.{Bank}
use Rattle.timer_regs.specs.Pwm.{edge_after}
use Rattle.timer_regs.specs.Reply.{longest}
use Rattle.timer_regs.specs.Rest.{rests_from}
use Rattle.timer_regs.specs.Uart.{IsBy}

pub record IsSound (b : Bank) : Type 0 where
  pub small : b.time < 2 ^ 31
  pub high : b.hi ≤ 7
  pub low : b.lo ≤ 7
  pub duty : b.duty ≤ most_duty
  pub sector : b.sector ≤ 6
  -- no control tick later than now was read
  pub read : b.number_read ≤ b.time / control_period
  -- no change of the line later than now stands
  pub changed : rests_from b.changed ≤ b.time + rest
  -- a period fits in its register
  pub period : b.period < 2 ^ 32
  -- a reply that was loaded by now ends soon
  pub reply : b.reply_end ≤ b.time + longest
  -- a serial byte that waits has arrived, and the transmitter is soon idle
  pub received : IsBy b.receive b.time
  pub idle : b.idle_from ≤ b.time + byte_time
  -- no edge later than now was heard
  pub last : last_at b.window.edges ≤ b.time

-- and of the next PWM event, which the registers keep beside them
pub record IsKept (b : Bank) (next : Option ℕ) : Type 0 where
  pub sound : IsSound b
  pub edge : next ≡ edge_after b.duty b.time
