-- The interval between crossings, and the wait from a crossing to the sector change. Times are ticks of 48 MHz.
use Rattle.std.specs.Prelude.{ℕ, ◌+◌, ◌-◌, ◌*◌, ◌/◌, min, max, Option, Some, None}
use Rattle.esc_base.specs.declared.tick.Tick.{Tick}
use Rattle.esc_base.specs.Times.{first_interval, least_interval, most_interval}

-- the interval, and the newest crossing of the drive
pub record Pace : Type 0 where
  pub interval : ℕ
  pub last : Option Tick

-- at the start of a drive
abbrev pub first_pace : Pace
first_pace = record { interval = first_interval; last = None }

-- the gap of a crossing at z: the time since the crossing before it, or at the first one the interval itself
abbrev pub gap_of : Option Tick → ℕ → ℕ → ℕ
gap_of None interval z = interval
gap_of (Some last) interval z = z - last.0

-- a crossing moves the interval to its gap by a quarter, within limits
abbrev pub paced : Pace → Tick → Pace
paced p z = record { interval = max least_interval (min most_interval ((3 * p.interval + gap_of p.last p.interval z.0) / 4)); last = Some z }

-- the wait: half the interval, less an eighth of it for each step of advance; each quotient is rounded down
abbrev pub wait_of : ℕ → ℕ → ℕ
wait_of advance interval = interval / 2 - interval * advance / 8
