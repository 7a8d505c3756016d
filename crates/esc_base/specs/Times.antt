-- The times of the rules, in ticks of 48 MHz unless said otherwise.
use Rattle.std.specs.Prelude.{ℕ, Bool, false, nat_le, Option, Some, None}
use Rattle.esc_base.specs.declared.signal.Mode.{Mode}
use Rattle.esc_base.specs.declared.signal.Mode.TheVariants as mode

-- a tick that may be there has come
abbrev pub is_reached : Option ℕ → ℕ → Bool
is_reached None t = false
is_reached (Some at) t = nat_le at t

-- so many ticks are a microsecond
abbrev pub microsecond : ℕ
microsecond = 48

-- ---- the signal line

-- from an F without a frame, the next window opens no earlier than this
abbrev pub least_pause : ℕ
least_pause = 600

-- and the window timer is set for no later than this
abbrev pub most_pause : ℕ
most_pause = 1200

-- for so long the line must have stood before the window timer is reached: longer than any gap between two edges of a
-- good frame
abbrev pub rest : ℕ
rest = 200

-- ---- replies

-- a reply begins no earlier than so long after the last edge of the window that it answers: 30 microseconds
abbrev pub reply_delay : ℕ
reply_delay = 1440

-- its line bits, the low one at the front counted
abbrev pub reply_bits : ℕ
reply_bits = 21

-- each of them stands so long, by the mode of the window that it answers: 5/4 of the frame's rate
abbrev pub reply_bit : Mode → ℕ
reply_bit mode.D600Inv = 64
reply_bit m = 128

-- ---- serial bytes

-- a byte takes so long on the serial line
abbrev pub byte_time : ℕ
byte_time = 25000

-- a longer pause between two bytes ends an unfinished packet: 50 milliseconds
abbrev pub packet_pause : ℕ
packet_pause = 2400000

-- ---- control

-- control ticks come at the multiples of this
abbrev pub control_period : ℕ
control_period = 2400

-- drive is lost after so many control ticks without a frame: half a second
abbrev pub timeout : ℕ
timeout = 10000

-- arming takes so many control ticks since the newest loss, and so many frames with value 0 in a row
abbrev pub arming_time : ℕ
arming_time = 5000

abbrev pub arming_frames : ℕ
arming_frames = 30

-- demand rises by at most this in a control tick
abbrev pub ramp : ℕ
ramp = 20

-- the least throttle value; a value below it is a command, and 0 is to stop
abbrev pub least_throttle : ℕ
least_throttle = 48

-- and the greatest
abbrev pub most_throttle : ℕ
most_throttle = 2047

-- the least and the greatest duty of a motor that is driven, in ticks of a period of pulse width modulation
abbrev pub least_duty : ℕ
least_duty = 100

abbrev pub most_duty : ℕ
most_duty = 1900

-- ---- commutation

-- blanking lasts at least so long
abbrev pub least_blanking : ℕ
least_blanking = 300

-- a filter lasts so long: half a microsecond
abbrev pub filter_time : ℕ
filter_time = 24

-- and after one that was rejected blanking lasts so long
abbrev pub rejected_blanking : ℕ
rejected_blanking = 400

-- the interval between crossings: what is taken at the start, and its limits
abbrev pub first_interval : ℕ
first_interval = 24000

abbrev pub least_interval : ℕ
least_interval = 1200

abbrev pub most_interval : ℕ
most_interval = 240000

-- without a crossing the sector changes so long after the change before it
abbrev pub forced_limit : ℕ
forced_limit = 240000

-- so many forced changes in a row say that the motor is stuck
abbrev pub stuck_changes : ℕ
stuck_changes = 60

-- ---- gates

-- a switch turns on only where the other one of its leg has been off for so long: a microsecond
abbrev pub dead_time : ℕ
dead_time = 48

-- the switches follow an edge of pulse width modulation within so many steps
abbrev pub chopping_steps : ℕ
chopping_steps = 48

-- pulse width modulation periods begin at the multiples of this
abbrev pub pwm_period : ℕ
pwm_period = 2000
