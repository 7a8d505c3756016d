-- What reads, writes, time, entries and outside events do to the registers. A register that a list doesn't name has no effect
-- there yet; one that gets an effect becomes a field of the bank, and a line of each list that it changes.
use Rattle.std.specs.Prelude.{◌≡◌, ℕ, ◌+◌, ◌-◌, ◌*◌, ◌/◌, ◌%◌, ◌<◌, ◌≤◌, ◌^◌, bit_and, bit_or, Bool, true, false, not, ◌&&◌, ◌||◌, ◌==◌, if◌then◌else◌, nat_lt, max, length, Some, None}
use Rattle.esc_base.specs.declared.kind.Kind.{Kind}
use Rattle.esc_base.specs.declared.kind.Kind.TheVariants as kind
use Rattle.esc_base.specs.declared.signal.Edge.{Edge}
use Rattle.esc_base.specs.Numbers.{mode_of, bit_of}
use Rattle.esc_base.specs.Times.{is_reached, control_period, pwm_period, most_duty, reply_bits, byte_time}
use Rattle.esc_base.specs.Trace.{differ}
use Rattle.edge_capture.specs.Edges.{edge_at}
use Rattle.edge_capture.specs.Window.{unarmed, opened_in, after_edge, window_closed}
use Rattle.timer_regs.specs.declared.regs.Reg.{Reg}
use Rattle.timer_regs.specs.declared.regs.Reg.TheVariants.{GhSet, GlSet, GhClr, GlClr, Mask, Duty, PwmPos, Sector, CommAt, DriveOff, Stuck, CmpState, CmpAck, CmpEn, CmpAt, CapState, CapEdge, CapArm, CapAt, Reply, Period, TickState, UartState, UartTime, UartData, Txd, TxOn}
use Rattle.timer_regs.specs.Rest.{rests_from, put_off}
use Rattle.timer_regs.specs.Uart.{received_at, received_byte, uart_state, asks_uart, after_arrival}
use Rattle.timer_regs.specs.Reply.{end_of_reply}
use Rattle.timer_regs.specs.Bank.{Bank}
use Rattle.timer_regs.specs.Pwm.{has_edge}

abbrev pub reset : Bank
reset = record {
  time = 0;
  accesses = 0;
  masked = false;
  hi = 0;
  lo = 0;
  duty = 0;
  flag = false;
  sector = 0;
  comm = None;
  stuck = false;
  level = false;
  window = unarmed;
  taken = false;
  timer = None;
  changed = None;
  comp = false;
  comp_changed = false;
  comp_enabled = false;
  crossing = None;
  period = 0;
  reply_end = 0;
  receive = None;
  idle_from = 0;
  sends = false;
  number_read = 0;
}

-- a closed window's edges are there to be read
abbrev pub is_readable : Bank → Bool
is_readable b = window_closed b.window b.time

-- the number of edges of the closed window, or 0
abbrev pub edges_read : Bank → ℕ
edges_read b = if is_readable b then length b.window.edges else 0

-- an edge as a register shows it: its tick, plus 2^31 where its level is 1
abbrev pub shown_edge : Edge → ℕ
shown_edge e = if e.level then e.t.0 + 2147483648 else e.t.0

abbrev pub edge_read : Bank → ℕ → ℕ
edge_read b i = if nat_lt i (edges_read b) then shown_edge (edge_at b.window.edges i) else 0

-- the control tick's number
abbrev pub number_at : ℕ → ℕ
number_at t = t / control_period

-- that number as it is read: 2^30 more with the stuck mark
abbrev pub tick_state : Bank → ℕ
tick_state b = if b.stuck then number_at b.time + 1073741824 else number_at b.time

-- a word of switches with those of another word turned off
abbrev pub without : ℕ → ℕ → ℕ
without word off = bit_and word (7 - off)

-- the comparator as it is read: its level in bit 0, and whether it changed in bit 1
abbrev pub comp_state : Bank → ℕ
comp_state b = 2 * bit_of b.comp_changed + bit_of b.comp

abbrev pub counted : Bank → Bank
counted b = record b { accesses = b.accesses + 1 }

-- what a read gives; every other register reads as 0
abbrev pub read_value : Bank → Reg → ℕ
read_value b CapState = edges_read b
read_value b (CapEdge i) = edge_read b i
read_value b TickState = tick_state b
read_value b Duty = b.duty
read_value b PwmPos = b.time % pwm_period
read_value b Sector = b.sector
read_value b CmpState = comp_state b
read_value b Reply = b.reply_end
read_value b Period = b.period
read_value b UartState = uart_state b.receive b.idle_from b.time
read_value b UartTime = received_at b.receive
read_value b UartData = received_byte b.receive
read_value b r = 0

-- what a read leaves: it is counted, the control tick's number counts as read, and the serial byte is taken
abbrev pub after_read : Bank → Reg → Bank
after_read b TickState = record b { accesses = b.accesses + 1; number_read = number_at b.time }
after_read b UartData = record b { accesses = b.accesses + 1; receive = None }
after_read b r = counted b

-- what a write leaves; one to any other register is counted, and has no effect
abbrev pub written : Bank → Reg → ℕ → Bank
written b Mask v = record b { accesses = b.accesses + 1; masked = v == 1 }
written b CapArm v = record b { accesses = b.accesses + 1; window = opened_in (mode_of v) b.time; taken = false }
written b CapAt v = record b { accesses = b.accesses + 1; timer = Some (max v (rests_from b.changed)) }
written b GhSet v = record b { accesses = b.accesses + 1; hi = bit_or b.hi v }
written b GlSet v = record b { accesses = b.accesses + 1; lo = bit_or b.lo v }
written b GhClr v = record b { accesses = b.accesses + 1; hi = without b.hi v }
written b GlClr v = record b { accesses = b.accesses + 1; lo = without b.lo v }
written b Duty v = record b { accesses = b.accesses + 1; duty = v; flag = nat_lt 0 v }
written b Sector v = record b { accesses = b.accesses + 1; sector = v }
written b CommAt v = record b { accesses = b.accesses + 1; comm = Some v }
written b DriveOff v = record b { accesses = b.accesses + 1; comm = None; crossing = None; comp_enabled = false; stuck = false; period = 0 }
written b Stuck v = record b { accesses = b.accesses + 1; stuck = b.stuck || (v == 1) }
written b CmpAck v = record b { accesses = b.accesses + 1; comp_changed = false }
written b CmpEn v = record b { accesses = b.accesses + 1; comp_changed = b.comp_changed && not (v == 1); comp_enabled = b.comp_enabled || (v == 1) }
written b CmpAt v = record b { accesses = b.accesses + 1; comp_enabled = false; crossing = Some v }
written b Reply v = record b { accesses = b.accesses + 1; reply_end = end_of_reply b.window b.time }
written b Period v = record b { accesses = b.accesses + 1; period = v }
written b Txd v = record b { accesses = b.accesses + 1; idle_from = b.time + byte_time }
written b TxOn v = record b { accesses = b.accesses + 1; sends = v == 1 }
written b r v = counted b

-- the values that may be written
abbrev pub IsRange : Reg → ℕ → Type 0
IsRange Mask v = v ≤ 1
IsRange CapArm v = v ≤ 5
IsRange GhSet v = v ≤ 7
IsRange GlSet v = v ≤ 7
IsRange GhClr v = v ≤ 7
IsRange GlClr v = v ≤ 7
IsRange Duty v = v ≤ most_duty
IsRange Sector v = v ≤ 6
IsRange Stuck v = v ≤ 1
IsRange CmpEn v = v ≤ 1
IsRange Reply v = v < 2 ^ reply_bits
IsRange Txd v = v < 2 ^ 8
IsRange TxOn v = v ≤ 1
IsRange r v = v < 2 ^ 32

-- what a read can give
abbrev pub IsSmall : Reg → ℕ → Type 0
IsSmall CapState v = v ≤ 32
IsSmall (CapEdge i) v = v < 2 ^ 32
IsSmall TickState v = v < 2 ^ 31
IsSmall Duty v = v ≤ most_duty
IsSmall PwmPos v = v < pwm_period
IsSmall Sector v = v ≤ 6
IsSmall CmpState v = v ≤ 3
IsSmall Reply v = v < 2 ^ 32
IsSmall Period v = v < 2 ^ 32
IsSmall UartState v = v ≤ 3
IsSmall UartTime v = v < 2 ^ 31
IsSmall UartData v = v < 2 ^ 8
IsSmall r v = v ≡ 0

-- time alone goes on to a tick, and a PWM event on the way sets the flag
abbrev pub advanced : Bank → ℕ → Bank
advanced b to = record b { time = to; flag = b.flag || has_edge b.duty b.time to }

-- the signal line has a level: where it is a new one, that is an edge for the window, and an armed window timer that isn't
-- reached waits until the line has rested
abbrev pub after_line : Bank → Bool → Bank
after_line b level =
    if differ b.level level
    then record b {
      level = level;
      window = after_edge b.window (record { t = record { 0 = b.time }; level = level });
      timer = put_off b.timer b.time;
      changed = Some b.time;
    }
    else b

-- the comparator has a level: where it is a new one, it has changed
abbrev pub after_comp : Bank → Bool → Bank
after_comp b level = if differ b.comp level then record b { comp = level; comp_changed = true } else b

-- a serial byte arrives: it is kept where none waits, and else lost
abbrev pub after_serial : Bank → ℕ → Bank
after_serial b byte = record b { receive = after_arrival b.receive b.time byte }

-- which kinds are due; MAIN is the firmware's matter
abbrev pub is_due : Bank → Kind → Bool
is_due b kind.Cap = (is_readable b && not b.taken) || is_reached b.timer b.time
is_due b kind.Cmp = is_reached b.crossing b.time || (b.comp_enabled && b.comp_changed)
is_due b kind.Tick = not (number_at b.time == b.number_read)
is_due b kind.Comm = is_reached b.comm b.time
is_due b kind.Pwm = b.flag
is_due b kind.Uart = asks_uart b.receive b.sends b.idle_from b.time
is_due b k = false

-- what entering a kind clears: COMM disarms its timer, PWM takes the event, CMP disarms its timer and is asked for by no
-- change of the comparator, CAP disarms its timer and takes the closed window, which stays readable
abbrev pub after_entry : Bank → Kind → Bank
after_entry b kind.Cap = record b { taken = b.taken || is_readable b; timer = None }
after_entry b kind.Cmp = record b { crossing = None; comp_enabled = false }
after_entry b kind.Comm = record b { comm = None }
after_entry b kind.Pwm = record b { flag = false }
after_entry b k = b
