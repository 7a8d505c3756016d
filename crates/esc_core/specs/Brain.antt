-- What a contract sees of the core.
use Rattle.std.specs.Prelude.{ℕ, Bool, List}
use Rattle.esc_base.specs.declared.signal.Edge.{Edge}
use Rattle.esc_base.specs.declared.signal.Mode.{Mode}
use Rattle.arming.specs.Kept.{Kept}
use Rattle.esc_core.specs.declared.state.CapAt.{CapAt}
use Rattle.esc_core.specs.declared.state.TickAt.{TickAt}
use Rattle.esc_core.specs.declared.state.PwmAt.{PwmAt}
use Rattle.esc_core.specs.declared.state.CmpAt.{CmpAt}
use Rattle.esc_core.specs.declared.state.CommAt.{CommAt}
use Rattle.esc_core.specs.declared.state.MainAt.{MainAt}
use Rattle.esc_core.specs.declared.state.UartAt.{UartAt}
use Rattle.esc_core.specs.declared.orders.Orders.{Orders}
use Rattle.esc_core.specs.declared.drive.Drive.{Drive}
use Rattle.esc_core.specs.Line.{Line}

pub record Brain : Type 0 where
  pub cap_at : CapAt
  pub tick_at : TickAt
  pub main_at : MainAt
  pub uart_at : UartAt
  pub cmp_at : CmpAt
  pub pwm_at : PwmAt
  pub comm_at : CommAt
  -- for how many steps the mask can still stand
  pub hold : ℕ
  -- the mode of the newest window
  pub window : Mode
  -- the edges of the closed window, as far as they have been read
  pub burst : List Edge
  -- the window timer was set, and no window was opened since
  pub paused : Bool
  pub control : Kept
  pub orders : Orders
  pub drive : Drive
  pub line : Line
