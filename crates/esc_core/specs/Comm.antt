-- The steps of COMM: where that is due it changes the sector, arms the crossing timer for the end of blanking and writes the
-- period; else it turns a postponed low switch on; and then it arms its own timer.
use Rattle.std.specs.Prelude.{ℕ, Bool, true, false, nat_le, if◌then◌else◌, [], ◌∷◌}
use Rattle.esc_base.specs.declared.note.Note.TheVariants as note
use Rattle.esc_base.specs.Numbers.{as_tick}
use Rattle.esc_base.specs.Times.{stuck_changes}
use Rattle.timer_regs.specs.Bank.{Bank}
use Rattle.timer_regs.specs.declared.regs.Reg.TheVariants as reg
use Rattle.interrupt_machine.specs.Did.{NoAccess, Reads, Writes}
use Rattle.commutation.specs.Sectors.{next_sector}
use Rattle.commutation.specs.Turns.{six_of}
use Rattle.zero_cross.specs.Kept.{until}
use Rattle.gate_driver.specs.declared.progress.Progress.{Progress}
use Rattle.gate_driver.specs.declared.progress.Progress.TheVariants.{More, Done, Later}
use Rattle.gate_driver.specs.declared.to_sector.ChangeAt.{ChangeAt}
use Rattle.gate_driver.specs.declared.to_sector.ChangeAt.TheVariants as change
use Rattle.gate_driver.specs.Acted.{Acted}
use Rattle.gate_driver.specs.Change.{Change, change_to, place_step, change_step}
use Rattle.esc_core.specs.declared.state.CommAt.{CommAt}
use Rattle.esc_core.specs.declared.state.CommAt.TheVariants as comm
use Rattle.esc_core.specs.declared.drive.Drive.{Drive}
use Rattle.esc_core.specs.Orders.{is_forward}
use Rattle.esc_core.specs.Brain.{Brain}
use Rattle.esc_core.specs.Drive.{after_turn, searching, arms, due_at}
use Rattle.esc_core.specs.Stepped.{Stepped, goes_on, goes_back}

-- a sector change begins, to the sector after the present one in the direction that commands have given by now
abbrev pub begins : Brain → Bank → Stepped
begins c b =
    goes_on
    (record c {
      drive = record c.drive { turn = change_to (next_sector b.sector (is_forward c.orders)); postponed = false };
      comm_at = comm.Turn;
    })
    (Reads reg.Sector)

-- where it isn't due: a postponed low switch is asked for, and with none the timer is armed again
abbrev pub waits_for : Bool → CommAt
waits_for true = comm.Low
waits_for false = comm.Arm

-- by whether the sector change is due
abbrev pub decided : Bool → Brain → Bank → Stepped
decided true c b = begins c b
decided false c b = goes_on (record c { comm_at = waits_for c.drive.postponed }) NoAccess

abbrev pub decide_step : Brain → Bank → Stepped
decide_step c b = decided (nat_le c.drive.change b.time) c b

-- where a switch has to wait the rest of the change is left out
abbrev pub after_ask : Progress → CommAt
after_ask More = comm.Turn
after_ask Done = comm.Blank
after_ask (Later t) = comm.Blank

abbrev pub is_later : Progress → Bool
is_later More = false
is_later Done = false
is_later (Later t) = true

-- the drive after a step of the change
abbrev pub acted : Drive → Acted Change → Drive
acted d s = record d { gates = s.gates; turn = s.place }

-- the sector has changed at t: its time and the search for its crossing begin
abbrev pub sector_began : Drive → Bool → ℕ → Drive
sector_began d forward t = searching (after_turn d t) forward t

-- A step of the sector change, from a place. The step that writes SECTOR gives the Q, and the sector begins; the one that asks
-- for the low switch keeps whether it is postponed.
abbrev pub turned : ChangeAt → Acted Change → Brain → Bank → Stepped
turned change.SetSector s c b = record {
  core = record c { drive = sector_began (acted c.drive s) (is_forward c.orders) b.time; comm_at = after_ask s.answer };
  access = s.access;
  notes = note.Step (as_tick b.time) c.drive.turn.to ∷ [];
  over = false;
}
turned change.Low s c b =
    goes_on (record c { drive = record (acted c.drive s) { postponed = is_later s.answer }; comm_at = after_ask s.answer }) s.access
turned at s c b = goes_on (record c { drive = acted c.drive s; comm_at = after_ask s.answer }) s.access

abbrev pub turn_step : ChangeAt → Brain → Bank → Stepped
turn_step at c b = turned at (place_step at c.drive.turn c.drive.gates b) c b

-- the postponed low switch is asked for again, and the change's other steps are left out
abbrev pub resumed : Acted Change → Brain → Stepped
resumed s c = goes_on (record c { drive = record (acted c.drive s) { postponed = is_later s.answer }; comm_at = comm.Arm }) s.access

abbrev pub resumed_step : Brain → Bank → Stepped
resumed_step c b = resumed (change_step c.drive.turn c.drive.gates b) c

-- after sixty forced sector changes in a row the stuck mark is set
abbrev pub after_arm : ℕ → CommAt
after_arm forced = if nat_le stuck_changes forced then comm.Stick else comm.Back

abbrev pub comm_step : CommAt → Brain → Bank → Stepped
comm_step comm.Decide c b = decide_step c b
comm_step comm.Turn c b = turn_step c.drive.turn.at c b
comm_step comm.Low c b = resumed_step c b
comm_step comm.Blank c b = goes_on (record c { comm_at = comm.Period }) (arms (until c.drive.crossing.phase))
comm_step comm.Period c b = goes_on (record c { comm_at = comm.Arm }) (Writes reg.Period (six_of c.drive.timing.turns))
comm_step comm.Arm c b = goes_on (record c { comm_at = after_arm c.drive.forced }) (Writes reg.CommAt (due_at c.drive))
comm_step comm.Stick c b = goes_on (record c { comm_at = comm.Back }) (Writes reg.Stuck 1)
comm_step comm.Back c b = goes_back (record c { comm_at = comm.Shut })
comm_step comm.Shut c b = goes_back (record c { comm_at = comm.Shut })
