-- What a contract sees of the registers: a field for each fact of the hardware.
use Rattle.std.specs.Prelude.{ℕ, Bool, Option}
use Rattle.esc_base.specs.declared.event.Received.{Received}
use Rattle.edge_capture.specs.Window.{Window}

pub record Bank : Type 0 where
  -- now
  pub time : ℕ
  pub accesses : ℕ
  -- the interrupt mask is up
  pub masked : Bool
  -- the switches that are on, bit 0 for leg A
  pub hi : ℕ
  pub lo : ℕ
  -- the duty of the high switch, and whether a PWM event waits
  pub duty : ℕ
  pub flag : Bool
  -- the present sector, 0 before the first
  pub sector : ℕ
  -- the tick for which the commutation timer is armed
  pub comm : Option ℕ
  -- the stuck mark
  pub stuck : Bool
  -- the level of the signal line
  pub level : Bool
  -- the capture's window
  pub window : Window
  -- the closed window counts as taken
  pub taken : Bool
  -- the tick for which the window timer is armed
  pub timer : Option ℕ
  -- the newest change of the signal line
  pub changed : Option ℕ
  -- the comparator's level, and whether it changed since that was last cleared
  pub comp : Bool
  pub comp_changed : Bool
  -- a change of the comparator asks for CMP
  pub comp_enabled : Bool
  -- the tick for which the crossing timer is armed
  pub crossing : Option ℕ
  -- the sum of six gaps of sectors that was last written, 0 for none
  pub period : ℕ
  -- the tick at which the last reply ends, 0 before any
  pub reply_end : ℕ
  -- the serial byte that waits in the receive register
  pub receive : Option Received
  -- the transmitter is idle from this tick on
  pub idle_from : ℕ
  -- bytes are to be sent
  pub sends : Bool
  -- the control tick number that was last read
  pub number_read : ℕ
