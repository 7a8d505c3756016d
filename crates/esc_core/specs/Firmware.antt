-- An entry and a step of the core, whatever the kind.
use Rattle.std.specs.Prelude.{ℕ, ◌+◌, ◌-◌, Bool, true, false, ◌&&◌, if◌then◌else◌, nat_lt, List, []}
use Rattle.esc_base.specs.declared.kind.Kind.{Kind}
use Rattle.esc_base.specs.declared.kind.Kind.TheVariants as kind
use Rattle.esc_base.specs.declared.signal.Mode.TheVariants.{Unknown}
use Rattle.timer_regs.specs.Bank.{Bank}
use Rattle.timer_regs.specs.declared.regs.Reg.TheVariants as reg
use Rattle.interrupt_machine.specs.Did.{Writes}
use Rattle.arming.specs.Kept.{start}
use Rattle.esc_core.specs.declared.state.CapAt.{CapAt}
use Rattle.esc_core.specs.declared.state.CapAt.TheVariants as cap
use Rattle.esc_core.specs.declared.state.TickAt.{TickAt}
use Rattle.esc_core.specs.declared.state.TickAt.TheVariants as tick
use Rattle.esc_core.specs.declared.state.PwmAt.{PwmAt}
use Rattle.esc_core.specs.declared.state.PwmAt.TheVariants as pwm
use Rattle.esc_core.specs.declared.state.CmpAt.{CmpAt}
use Rattle.esc_core.specs.declared.state.CmpAt.TheVariants as cmp
use Rattle.esc_core.specs.declared.state.CommAt.{CommAt}
use Rattle.esc_core.specs.declared.state.CommAt.TheVariants as comm
use Rattle.esc_core.specs.declared.state.MainAt.{MainAt}
use Rattle.esc_core.specs.declared.state.MainAt.TheVariants as main
use Rattle.fourway_packet.specs.Queue.{Queue}
use Rattle.esc_core.specs.declared.state.UartAt.{UartAt}
use Rattle.esc_core.specs.declared.state.UartAt.TheVariants as uart
use Rattle.settings_block.specs.declared.settings.Settings.{Settings}
use Rattle.esc_core.specs.Orders.{first_orders}
use Rattle.gate_driver.specs.declared.chop.Chop.TheVariants as chop
use Rattle.gate_driver.specs.declared.to_sector.ChangeAt.{ChangeAt}
use Rattle.gate_driver.specs.AllOff.{all_off_left}
use Rattle.gate_driver.specs.Chop.{chop_left}
use Rattle.gate_driver.specs.Change.{change_left}
use Rattle.esc_core.specs.Drive.{first_drive}
use Rattle.fourway_packet.specs.Queue.{Queue}
use Rattle.esc_core.specs.Line.{first_line, line_waits}
use Rattle.esc_core.specs.Brain.{Brain}
use Rattle.esc_core.specs.Stepped.{Stepped}
use Rattle.esc_core.specs.Cap.{cap_step}
use Rattle.esc_core.specs.Tick.{tick_step}
use Rattle.esc_core.specs.Pwm.{pwm_step}
use Rattle.esc_core.specs.Cmp.{cmp_step}
use Rattle.esc_core.specs.Uart.{uart_step}
use Rattle.esc_core.specs.Comm.{comm_step}
use Rattle.esc_core.specs.Calls.{Call, Answer}
use Rattle.esc_core.specs.Background.{main_step, main_asked}

-- how many own steps are left from a place
abbrev pub cap_left : CapAt → ℕ
cap_left cap.Shut = 0
cap_left cap.Start = 40
cap_left (cap.Copy rest) = rest + 6
cap_left cap.Judge = 5
cap_left cap.Open = 2
cap_left cap.Period = 4
cap_left (cap.Reply period) = 3
cap_left (cap.Pause at) = 2
cap_left cap.Back = 1

abbrev pub tick_left : TickAt → ℕ
tick_left tick.Shut = 0
tick_left tick.Raise = 9
tick_left tick.Read = 8
tick_left (tick.Off at) = all_off_left at + 5
tick_left tick.DutyOff = 4
tick_left tick.DriveOff = 3
tick_left (tick.DutyOn is_start) = 4
tick_left tick.Start = 3
tick_left tick.Lower = 2
tick_left tick.Back = 1

abbrev pub pwm_left : PwmAt → ℕ
pwm_left pwm.Shut = 0
pwm_left (pwm.Run at) = chop_left at + 2
pwm_left pwm.Back = 1

abbrev pub cmp_left : CmpAt → ℕ
cmp_left cmp.Shut = 0
cmp_left cmp.Raise = 7
cmp_left cmp.Look = 6
cmp_left cmp.Read = 5
cmp_left cmp.Ack = 4
cmp_left cmp.Arm = 3
cmp_left cmp.Commute = 3
cmp_left cmp.Lower = 2
cmp_left cmp.Back = 1

-- by where the sector change stands
abbrev pub comm_left : CommAt → ChangeAt → ℕ
comm_left comm.Shut at = 0
comm_left comm.Decide at = 14
comm_left comm.Turn at = change_left at + 6
comm_left comm.Blank at = 5
comm_left comm.Period at = 4
comm_left comm.Low at = 4
comm_left comm.Arm at = 3
comm_left comm.Stick at = 2
comm_left comm.Back at = 1

abbrev pub main_left : MainAt → ℕ
main_left main.Shut = 0
main_left main.Work = 2
main_left main.Back = 1

abbrev pub uart_left : UartAt → ℕ
uart_left uart.Shut = 0
uart_left uart.Look = 4
uart_left uart.Time = 3
uart_left (uart.Data t) = 2
uart_left uart.Back = 1

abbrev pub left_of : Brain → Kind → ℕ
left_of c kind.Main = main_left c.main_at
left_of c kind.Uart = uart_left c.uart_at
left_of c kind.Tick = tick_left c.tick_at
left_of c kind.Cap = cap_left c.cap_at
left_of c kind.Cmp = cmp_left c.cmp_at
left_of c kind.Pwm = pwm_left c.pwm_at
left_of c kind.Comm = comm_left c.comm_at c.drive.turn.at

-- for how many steps the mask stands from a place on, with the one that lowers it; 9 where it never stands
abbrev pub tick_need : TickAt → ℕ
tick_need tick.Read = 7
tick_need (tick.Off at) = all_off_left at + 4
tick_need tick.DutyOff = 3
tick_need tick.DriveOff = 2
tick_need (tick.DutyOn is_start) = 3
tick_need tick.Start = 2
tick_need tick.Lower = 1
tick_need tick.Raise = 9
tick_need tick.Back = 9
tick_need tick.Shut = 9

abbrev pub pwm_need : PwmAt → ℕ
pwm_need (pwm.Run chop.Position) = 5
pwm_need (pwm.Run (chop.Duty position)) = 4
pwm_need (pwm.Run (chop.Sector below)) = 3
pwm_need (pwm.Run (chop.Write leg)) = 2
pwm_need (pwm.Run chop.Lower) = 1
pwm_need (pwm.Run chop.Raise) = 9
pwm_need (pwm.Run chop.Over) = 9
pwm_need pwm.Back = 9
pwm_need pwm.Shut = 9

abbrev pub cmp_need : CmpAt → ℕ
cmp_need cmp.Look = 5
cmp_need cmp.Read = 4
cmp_need cmp.Ack = 3
cmp_need cmp.Arm = 2
cmp_need cmp.Commute = 2
cmp_need cmp.Lower = 1
cmp_need cmp.Raise = 9
cmp_need cmp.Back = 9
cmp_need cmp.Shut = 9

abbrev pub need_of : Brain → Kind → ℕ
need_of c kind.Tick = tick_need c.tick_at
need_of c kind.Pwm = pwm_need c.pwm_at
need_of c kind.Cmp = cmp_need c.cmp_at
need_of c k = 9

abbrev pub shut : Brain → Kind → Brain
shut c kind.Main = record c { main_at = main.Shut }
shut c kind.Uart = record c { uart_at = uart.Shut }
shut c kind.Tick = record c { tick_at = tick.Shut }
shut c kind.Cap = record c { cap_at = cap.Shut }
shut c kind.Cmp = record c { cmp_at = cmp.Shut }
shut c kind.Pwm = record c { pwm_at = pwm.Shut }
shut c kind.Comm = record c { comm_at = comm.Shut }

abbrev pub entered_core : Brain → Kind → Brain
entered_core c kind.Main = record c { main_at = main.Work }
entered_core c kind.Uart = record c { uart_at = uart.Look }
entered_core c kind.Tick = record c { tick_at = tick.Raise }
entered_core c kind.Cap = record c { cap_at = cap.Start }
entered_core c kind.Cmp = record c { cmp_at = cmp.Raise }
entered_core c kind.Pwm = record c { pwm_at = pwm.Run chop.Raise }
entered_core c kind.Comm = record c { comm_at = comm.Decide }

abbrev pub kind_step : Kind → List Answer → Brain → Bank → Stepped
kind_step kind.Tick answers c b = tick_step c.tick_at c b
kind_step kind.Cap answers c b = cap_step c.cap_at c b
kind_step kind.Pwm answers c b = pwm_step c.pwm_at c b
kind_step kind.Cmp answers c b = cmp_step c.cmp_at c b
kind_step kind.Comm answers c b = comm_step c.comm_at c b
kind_step kind.Main answers c b = main_step answers c.main_at c b
kind_step kind.Uart answers c b = uart_step c.uart_at c b

-- the calls of the flash that a step makes; those of most kinds make none
abbrev pub kind_asked : Kind → Brain → List Answer → List Call
kind_asked kind.Main c answers = main_asked c.main_at c answers
kind_asked k c answers = []

-- the masked steps are counted
abbrev pub counted_down : Brain → Bank → Brain
counted_down c b = record c { hold = if b.masked then c.hold - 1 else c.hold }

-- the mask stands where the activation doesn't lower it in time
abbrev pub is_stray : Kind → Brain → Bank → Bool
is_stray k c b = b.masked && nat_lt c.hold (need_of c k)

-- a stray step lowers the mask and returns; none stands in a run
abbrev pub stray_step : Kind → Brain → Stepped
stray_step k c = record { core = shut c k; access = Writes reg.Mask 0; notes = []; over = true }

-- a step, by what the flash answered to its calls
unfoldable pub core_step : Kind → List Answer → Brain → Bank → Stepped
core_step k answers c b = if is_stray k c b then stray_step k c else kind_step k answers (counted_down c b) b

unfoldable pub core_asked : Kind → Brain → Bank → List Answer → List Call
core_asked k c b answers = if is_stray k c b then [] else kind_asked k c answers

-- MAIN is due: a save is asked for, or a byte is to be taken
abbrev pub waits_of : Brain → Bool
waits_of c = if c.orders.save_asked then true else line_waits c.line

abbrev pub new_core : Settings → Queue → Brain
new_core settings packets = record {
  cap_at = cap.Shut;
  tick_at = tick.Shut;
  main_at = main.Shut;
  uart_at = uart.Shut;
  cmp_at = cmp.Shut;
  pwm_at = pwm.Shut;
  comm_at = comm.Shut;
  hold = 0;
  window = Unknown;
  burst = [];
  paused = false;
  control = start;
  orders = first_orders settings;
  drive = first_drive settings.advance;
  line = first_line packets;
}
