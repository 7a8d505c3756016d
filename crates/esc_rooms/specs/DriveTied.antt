-- What ties the drive to what the notes say, by where COMM, PWM and TICK stand. Each fact holds between any two steps, whatever
-- is open.
use Rattle.std.specs.Prelude.{◌≡◌, ◌≢◌, ◌<◌, ◌≤◌, ◌+◌, ◌%◌, ◌⊎◌, ℕ, min, Bool, true, false, ◌||◌, nat_lt, nat_le, Option, Some, None}
use Rattle.esc_base.specs.Times.{dead_time, forced_limit, pwm_period, stuck_changes}
use Rattle.esc_base.specs.declared.gate.Leg.{Leg}
use Rattle.esc_base.specs.Legs.{is_on, IsOnly}
use Rattle.esc_base.specs.Periods.{edges}
use Rattle.commutation.specs.Sectors.{high_of, low_of, next_sector}
use Rattle.commutation.specs.Commutated.{Turn, Idle, Started, Turned, Crossed, is_forced}
use Rattle.gate_driver.specs.declared.all_off.AllOff.TheVariants as off
use Rattle.gate_driver.specs.declared.chop.Chop.TheVariants as chop
use Rattle.gate_driver.specs.declared.to_sector.ChangeAt.{ChangeAt}
use Rattle.gate_driver.specs.declared.to_sector.ChangeAt.TheVariants as change
use Rattle.gate_driver.specs.Gated.{Legs, at_leg}
use Rattle.gate_driver.specs.Chop.{chopped_leg}
use Rattle.esc_core.specs.declared.state.CommAt.{CommAt}
use Rattle.esc_core.specs.declared.state.CommAt.TheVariants as comm
use Rattle.esc_core.specs.declared.state.CmpAt.{CmpAt}
use Rattle.esc_core.specs.declared.state.CmpAt.TheVariants as cmp
use Rattle.esc_core.specs.declared.state.PwmAt.{PwmAt}
use Rattle.esc_core.specs.declared.state.PwmAt.TheVariants as pwm
use Rattle.esc_core.specs.declared.state.TickAt.{TickAt}
use Rattle.esc_core.specs.declared.state.TickAt.TheVariants as tick
use Rattle.esc_core.specs.declared.drive.Drive.{Drive}
use Rattle.esc_core.specs.Drive.{is_stuck, low_free, due_at}
use Rattle.esc_laws.specs.Driven.{InPair}

-- ---- PWM: what it has read is the present sector, and what the sampled position asks for

-- by its place, its own steps so far, the tick of the second one, the demand and the sector
abbrev pub PwmTied : PwmAt → ℕ → ℕ → ℕ → ℕ → Type 0
PwmTied pwm.Shut own sampled demand sector = Unit {0}
PwmTied (pwm.Run chop.Raise) own sampled demand sector = own ≡ 0
PwmTied (pwm.Run chop.Position) own sampled demand sector = own ≡ 1
PwmTied (pwm.Run (chop.Duty position)) own sampled demand sector = (own ≡ 2) × (position ≡ sampled % pwm_period)
PwmTied (pwm.Run (chop.Sector below)) own sampled demand sector = (own ≡ 3) × (below ≡ nat_lt (sampled % pwm_period) demand)
PwmTied (pwm.Run (chop.Write leg)) own sampled demand sector = (own ≡ 4) × (leg ≡ chopped_leg (nat_lt (sampled % pwm_period) demand) sector)
PwmTied (pwm.Run chop.Lower) own sampled demand sector = own ≡ 5
PwmTied (pwm.Run chop.Over) own sampled demand sector = ⊥
PwmTied pwm.Back own sampled demand sector = own ≡ 6

-- TICK is about to write DUTY
abbrev pub writes_duty : TickAt → Bool
writes_duty (tick.DutyOn start) = true
writes_duty at = false

-- the flag is up where the notes call PWM, but between a K and the write of DUTY, and for nothing else
pub record FlagTied (at : TickAt) (flag asked : Bool) (demand entered time : ℕ) : Type 0 where
  pub new : writes_duty at ≡ true → asked ≡ true
  pub asks : 0 < demand → asked ≡ true → (writes_duty at ≡ true) ⊎ (flag ≡ true)
  pub counted : 0 < demand → asked ≡ false → edges demand entered < edges demand time → flag ≡ true
  pub only : 0 < demand → flag ≡ true → (asked ≡ true) ⊎ (edges demand entered < edges demand time)
  pub past : entered ≤ time

-- ---- TICK

-- the duty is the demand but between a K and the write of DUTY
abbrev pub DutyTied : TickAt → ℕ → ℕ → Type 0
DutyTied (tick.Off at) duty demand = demand ≡ 0
DutyTied tick.DutyOff duty demand = demand ≡ 0
DutyTied tick.DriveOff duty demand = (demand ≡ 0) × (duty ≡ demand)
DutyTied (tick.DutyOn start) duty demand = 0 < demand
DutyTied tick.Start duty demand = (0 < demand) × (duty ≡ demand)
DutyTied tick.Shut duty demand = duty ≡ demand
DutyTied tick.Raise duty demand = duty ≡ demand
DutyTied tick.Read duty demand = duty ≡ demand
DutyTied tick.Lower duty demand = duty ≡ demand
DutyTied tick.Back duty demand = duty ≡ demand

-- nothing drives, and nothing will before a K with a demand
pub record Still (hi lo : ℕ) (flag : Bool) (timer : Option ℕ) (postponed stuck : Bool) : Type 0 where
  pub high_off : hi ≡ 0
  pub low_off : lo ≡ 0
  pub no_event : flag ≡ false
  pub disarmed : timer ≡ None
  pub prompt : postponed ≡ false
  pub no_mark : stuck ≡ false

-- how far a TICK with demand 0 has come
abbrev pub RestAt : TickAt → ℕ → ℕ → Bool → Option ℕ → Bool → Bool → Type 0
RestAt (tick.Off off.High) hi lo flag timer postponed stuck = Unit {0}
RestAt (tick.Off off.Low) hi lo flag timer postponed stuck = hi ≡ 0
RestAt (tick.Off off.Over) hi lo flag timer postponed stuck = ⊥
RestAt tick.DutyOff hi lo flag timer postponed stuck = (hi ≡ 0) × (lo ≡ 0)
RestAt tick.DriveOff hi lo flag timer postponed stuck = (hi ≡ 0) × (lo ≡ 0) × (flag ≡ false)
RestAt (tick.DutyOn start) hi lo flag timer postponed stuck = ⊥
RestAt tick.Start hi lo flag timer postponed stuck = ⊥
RestAt tick.Shut hi lo flag timer postponed stuck = Still hi lo flag timer postponed stuck
RestAt tick.Raise hi lo flag timer postponed stuck = Still hi lo flag timer postponed stuck
RestAt tick.Read hi lo flag timer postponed stuck = Still hi lo flag timer postponed stuck
RestAt tick.Lower hi lo flag timer postponed stuck = Still hi lo flag timer postponed stuck
RestAt tick.Back hi lo flag timer postponed stuck = Still hi lo flag timer postponed stuck

-- PWM and COMM are shut
pub record Rests (at : TickAt) (pwm_at : PwmAt) (comm_at : CommAt) (hi lo : ℕ) (flag : Bool) (timer : Option ℕ) (postponed stuck : Bool) : Type 0 where
  pub rest : RestAt at hi lo flag timer postponed stuck
  pub pwm_shut : pwm_at ≡ pwm.Shut
  pub comm_shut : comm_at ≡ comm.Shut

-- ---- the drive

pub record DriveView : Type 0 where
  -- what the core keeps, and where COMM, CMP and TICK stand
  pub drive : Drive
  pub comm_at : CommAt
  pub cmp_at : CmpAt
  pub tick_at : TickAt
  -- the registers
  pub time : ℕ
  pub hi : ℕ
  pub lo : ℕ
  pub sector : ℕ
  pub timer : Option ℕ
  pub stuck : Bool
  -- from this tick on COMM has made no step
  pub past : ℕ
  -- what the notes say: of the newest K, of the newest Q, of the direction, of the drive and of the wait after a Z
  pub demand : ℕ
  pub told_sector : ℕ
  pub turned_at : ℕ
  pub forward : Bool
  pub turn : Turn
  pub wait : ℕ
  pub told_forced : ℕ
  pub told_stuck : Bool
  -- and of the activations of COMM
  pub turns_in : ℕ
  pub was_due : Bool
  pub told_postponed : Bool

-- the low switch of the present pair is on
abbrev pub low_on : DriveView → Bool
low_on v = is_on v.lo (low_of v.sector)

-- it is on, or postponed
abbrev pub OnOrLate : DriveView → Type 0
OnOrLate v = ((low_on v ≡ true) × (v.drive.postponed ≡ false)) ⊎ ((v.drive.postponed ≡ true) × (low_on v ≡ false))

-- the same at the end of an activation with a Q: it is postponed only where the high switch of its leg went off less than 48
-- ticks before the Q
abbrev pub OnOrHeld : DriveView → Type 0
OnOrHeld v =
    ((low_on v ≡ true) × (v.drive.postponed ≡ false)) ⊎ ((v.drive.postponed ≡ true) × (low_on v ≡ false) × (v.turned_at < low_free v.drive))

-- COMM has decided on a sector change, and its Q isn't there yet
pub record Turns (v : DriveView) : Type 0 where
  pub none : v.turns_in ≡ 0
  pub to_is : v.drive.turn.to ≡ next_sector v.told_sector v.forward
  pub due : v.drive.change ≤ v.time
  pub prompt : v.drive.postponed ≡ false

-- its Q is there, and the low switch is on
pub record IsUp (v : DriveView) : Type 0 where
  pub one : v.turns_in ≡ 1
  pub some : 0 < v.sector
  pub low : low_on v ≡ true
  pub prompt : v.drive.postponed ≡ false

-- how far a sector change has turned off what isn't in the new pair; and after the Q, what becomes of the low switch
abbrev pub TurnTied : ChangeAt → DriveView → Type 0
TurnTied change.ClearHigh v = Turns v
TurnTied change.ClearLow v = Turns v × IsOnly v.hi (high_of v.drive.turn.to)
TurnTied change.SetSector v = Turns v × IsOnly v.hi (high_of v.drive.turn.to) × IsOnly v.lo (low_of v.drive.turn.to)
TurnTied change.Low v = (v.turns_in ≡ 1) × (0 < v.sector)
TurnTied change.Position v = IsUp v
TurnTied (change.Duty position) v = IsUp v
TurnTied change.High v = IsUp v
TurnTied change.Over v = ⊥

-- COMM was entered for a sector change that is due, or for the postponed switch, which may turn on
pub record Decides (v : DriveView) : Type 0 where
  pub none : v.turns_in ≡ 0
  pub due : (v.drive.change ≤ v.time) ⊎ ((v.drive.postponed ≡ true) × (low_free v.drive ≤ v.time))
  pub was_due : v.was_due ≡ true → v.drive.change ≤ v.time
  pub postponed : v.drive.postponed ≡ true → v.told_postponed ≡ true

-- it has decided on the postponed switch
pub record Resumes (v : DriveView) : Type 0 where
  pub none : v.turns_in ≡ 0
  pub not_due : v.was_due ≡ false
  pub postponed : v.told_postponed ≡ true
  pub some : 0 < v.sector
  pub free : low_free v.drive ≤ v.time
  pub late : v.drive.postponed ≡ true

-- it has turned that switch on
pub record Resumed (v : DriveView) : Type 0 where
  pub none : v.turns_in ≡ 0
  pub not_due : v.was_due ≡ false
  pub postponed : v.told_postponed ≡ true
  pub low : low_on v ≡ true
  pub prompt : v.drive.postponed ≡ false

-- it has done what it was entered for
pub record HasActed (v : DriveView) : Type 0 where
  pub some : 0 < v.sector
  pub done : ((v.turns_in ≡ 1) × OnOrHeld v) ⊎ Resumed v

abbrev pub HasArmed : DriveView → Type 0
HasArmed v = HasActed v × (v.timer ≡ Some (due_at v.drive))

abbrev pub CommTied : CommAt → DriveView → Type 0
CommTied comm.Shut v = Unit {0}
CommTied comm.Decide v = Decides v
CommTied comm.Turn v = TurnTied v.drive.turn.at v
CommTied comm.Low v = Resumes v
CommTied comm.Blank v = HasActed v
CommTied comm.Period v = HasActed v
CommTied comm.Arm v = HasActed v
CommTied comm.Stick v = HasArmed v × (is_stuck v.drive ≡ true)
CommTied comm.Back v = HasArmed v

-- how many steps it has made since the newest Q, at least
abbrev pub turn_since : ChangeAt → ℕ
turn_since change.ClearHigh = 6
turn_since change.ClearLow = 7
turn_since change.SetSector = 8
turn_since change.Low = 1
turn_since change.Position = 2
turn_since (change.Duty position) = 3
turn_since change.High = 4
turn_since change.Over = 0

abbrev pub comm_since : CommAt → ChangeAt → ℕ
comm_since comm.Shut at = 4
comm_since comm.Decide at = 5
comm_since comm.Turn at = turn_since at
comm_since comm.Low at = 6
comm_since comm.Blank at = 2
comm_since comm.Period at = 2
comm_since comm.Arm at = 2
comm_since comm.Stick at = 3
comm_since comm.Back at = 3

-- COMM is on the way to a Q
abbrev pub turn_begins : ChangeAt → Bool
turn_begins change.ClearHigh = true
turn_begins change.ClearLow = true
turn_begins change.SetSector = true
turn_begins at = false

abbrev pub is_turning : CommAt → ChangeAt → Bool
is_turning comm.Turn at = turn_begins at
is_turning place at = false

-- a Q may have been the sixtieth in a row, and STUCK isn't written yet
abbrev pub turn_ends : ChangeAt → Bool
turn_ends change.ClearHigh = false
turn_ends change.ClearLow = false
turn_ends change.SetSector = false
turn_ends at = true

abbrev pub is_marking : CommAt → ChangeAt → Bool
is_marking comm.Turn at = turn_ends at
is_marking comm.Blank at = true
is_marking comm.Period at = true
is_marking comm.Arm at = true
is_marking comm.Stick at = true
is_marking place at = false

-- the row of forced Q has ended, by a start or by a Z
abbrev pub IsUnforced : Turn → Type 0
IsUnforced Started = Unit {0}
IsUnforced (Crossed q z) = Unit {0}
IsUnforced turn = ⊥

-- when the next sector change is due
abbrev pub ChangeTied : ℕ → Turn → ℕ → ℕ → Type 0
ChangeTied wait Idle at time = ⊥
ChangeTied wait Started at time = at ≤ time
ChangeTied wait (Turned q) at time = at ≡ q + forced_limit
ChangeTied wait (Crossed q z) at time = at ≡ z + wait

-- a drive has just started, and its first sector change is due
pub record IsStarted (v : DriveView) : Type 0 where
  pub started : v.turn ≡ Started
  pub due : v.drive.change ≤ v.time

-- where COMM is shut and the drive is on, COMM_AT is exact, or a start has just set it
abbrev pub TimerKept : DriveView → Type 0
TimerKept v =
    ((v.timer ≡ Some (due_at v.drive)) × OnOrLate v) ⊎ ((at : ℕ) × (v.timer ≡ Some at) × (at ≤ v.time) × IsStarted v)

-- so it is but between the K of a start and the write of the timer
abbrev pub LowTied : TickAt → DriveView → Type 0
LowTied (tick.DutyOn start) v = ((start ≡ true) × IsStarted v) ⊎ ((start ≡ false) × TimerKept v)
LowTied tick.Start v = IsStarted v
LowTied tick.Shut v = TimerKept v
LowTied tick.Raise v = TimerKept v
LowTied tick.Read v = TimerKept v
LowTied tick.Lower v = TimerKept v
LowTied tick.Back v = TimerKept v
-- with demand 0 nothing is asked
LowTied (tick.Off at) v = Unit {0}
LowTied tick.DutyOff v = Unit {0}
LowTied tick.DriveOff v = Unit {0}

-- CMP has noted a Z, and hasn't set COMM_AT yet
abbrev pub commutes : CmpAt → Bool
commutes cmp.Commute = true
commutes at = false

-- the sector, and the switches that are on
pub record SwitchesTied (sector told_sector hi lo time turned_at : ℕ) (hi_free : Legs) : Type 0 where
  pub sector_is : sector ≡ told_sector
  pub sectors : sector ≤ 6
  pub pair : InPair sector hi lo
  -- a low switch that is on found the high one of its leg off for long enough
  pub held : (x : Leg) → is_on lo x ≡ true → at_leg hi_free x ≤ time
  -- high switches outside of the pair went off at or before the newest Q
  pub soon : (x : Leg) → at_leg hi_free x ≤ time + dead_time
  pub outer : 0 < sector → (x : Leg) → high_of sector ≢ x → at_leg hi_free x ≤ turned_at + dead_time
  pub unused : sector ≡ 0 → (x : Leg) → at_leg hi_free x ≡ 0
  pub past : turned_at ≤ time

-- the newest change of sector
pub record NewestTied (sector turned_at past to : ℕ) (at : ChangeAt) (comm_at : CommAt) (postponed : Bool) : Type 0 where
  pub since : 0 < sector → turned_at + comm_since comm_at at ≤ past
  pub to_is : is_turning comm_at at ≡ false → 0 < sector → to ≡ sector
  pub at_low : postponed ≡ true → at ≡ change.Low

-- the next one
pub record NextTied (sector demand change time wait : ℕ) (turn : Turn) : Type 0 where
  pub idle : demand ≡ 0 → turn ≡ Idle
  pub due : 0 < demand → ChangeTied wait turn change time
  pub first : sector ≡ 0 → 0 < demand → change ≤ time

-- the row of forced ones, and the stuck mark
pub record RowTied (demand row told_row : ℕ) (was_forced told_stuck mark : Bool) (turn : Turn) (comm_at : CommAt) (at : ChangeAt) : Type 0 where
  pub turned : 0 < demand → was_forced ≡ is_forced turn
  pub forced : row ≡ min stuck_changes told_row
  pub unforced : IsUnforced turn → told_row ≡ 0
  pub rest_unmarked : demand ≡ 0 → told_stuck ≡ false
  pub stuck : 0 < demand → told_stuck ≡ (mark || nat_le stuck_changes row)
  pub marked : 0 < demand → is_marking comm_at at ≡ false → nat_le stuck_changes row ≡ true → mark ≡ true

pub record DriveTied (v : DriveView) : Type 0 where
  pub switches : SwitchesTied v.sector v.told_sector v.hi v.lo v.time v.turned_at v.drive.gates.hi_free
  pub newest : NewestTied v.sector v.turned_at v.past v.drive.turn.to v.drive.turn.at v.comm_at v.drive.postponed
  pub next : NextTied v.sector v.demand v.drive.change v.time v.wait v.turn
  pub row : RowTied v.demand v.drive.forced v.told_forced v.drive.turned v.told_stuck v.stuck v.turn v.comm_at v.drive.turn.at
  -- COMM, and what it has left
  pub place : CommTied v.comm_at v
  pub low : v.comm_at ≡ comm.Shut → 0 < v.demand → commutes v.cmp_at ≡ false → LowTied v.tick_at v
  pub crossed : commutes v.cmp_at ≡ true → (low_on v ≡ true) × (v.drive.postponed ≡ false)
  pub postponed : v.comm_at ≡ comm.Shut → 0 < v.demand → v.drive.postponed ≡ true → v.told_postponed ≡ true
