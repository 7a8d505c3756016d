-- The steps of TICK: under the mask it reads the control tick's number, asks control, and sets the duty to the demand; or with
-- demand 0 it turns all off.
use Rattle.std.specs.Prelude.{ℕ, ◌+◌, ◌-◌, ◌==◌, Bool, true, false, nat_lt, if◌then◌else◌, List, [], ◌∷◌, Option, Some, None}
use Rattle.esc_base.specs.declared.note.Cause.{Cause}
use Rattle.esc_base.specs.declared.note.Note.{Note}
use Rattle.esc_base.specs.declared.note.Note.TheVariants as note
use Rattle.esc_base.specs.Numbers.{cause_number, as_tick}
use Rattle.timer_regs.specs.Bank.{Bank}
use Rattle.timer_regs.specs.Effects.{read_value}
use Rattle.timer_regs.specs.declared.regs.Reg.TheVariants as reg
use Rattle.interrupt_machine.specs.Did.{Reads, Writes}
use Rattle.gate_driver.specs.declared.progress.Progress.{Progress}
use Rattle.gate_driver.specs.declared.progress.Progress.TheVariants.{More, Done, Later}
use Rattle.gate_driver.specs.declared.all_off.AllOff.{AllOff}
use Rattle.gate_driver.specs.declared.all_off.AllOff.TheVariants as off
use Rattle.gate_driver.specs.Acted.{Acted}
use Rattle.gate_driver.specs.AllOff.{all_off_step}
use Rattle.arming.specs.declared.decision.Ticked.{Ticked}
use Rattle.arming.specs.Decide.{decide, answer_of}
use Rattle.arming.specs.Kept.{after_tick, view_of}
use Rattle.esc_core.specs.declared.state.TickAt.{TickAt}
use Rattle.esc_core.specs.declared.state.TickAt.TheVariants as tick
use Rattle.esc_core.specs.Brain.{Brain}
use Rattle.esc_core.specs.Drive.{answered}
use Rattle.esc_core.specs.Stepped.{Stepped, goes_on, goes_back}

abbrev pub outcome_note : ℕ → Option Cause → Bool → List Note
outcome_note t (Some cause) armed_now = note.Lost (as_tick t) (cause_number cause) ∷ []
outcome_note t None true = note.Armed (as_tick t) ∷ []
outcome_note t None false = []

abbrev pub tick_notes : ℕ → ℕ → ℕ → Ticked → List Note
tick_notes t n marks answer = note.Control (as_tick t) n marks answer.demand ∷ outcome_note t answer.lost answer.armed_now

abbrev pub ticked : Brain → ℕ → ℕ → Ticked
ticked c n marks = answer_of (decide (view_of c.control) n marks) c.control.demand

-- the control tick's number, and its marks, in the state that is read: 2^30 more with the stuck mark
abbrev pub number_in : ℕ → ℕ
number_in state = if nat_lt state 1073741824 then state else state - 1073741824

-- and 4 where a session is active
abbrev pub marks_in : ℕ → Bool → ℕ
marks_in state active = (if nat_lt state 1073741824 then 0 else 1) + (if active then 4 else 0)

-- with demand 0 all goes off; else the duty is set, and on a start the commutation timer
abbrev pub after_number : Ticked → TickAt
after_number answer = if answer.demand == 0 then tick.Off off.High else tick.DutyOn answer.start

-- control was asked in tick n with these marks
abbrev pub asked : ℕ → ℕ → Ticked → Brain → Bank → Stepped
asked n marks answer c b = record {
  core = record c {
    tick_at = after_number answer;
    control = after_tick c.control n (decide (view_of c.control) n marks);
    drive = answered answer.start (answer.demand == 0) b.time c.drive;
  };
  access = Reads reg.TickState;
  notes = tick_notes b.time n marks answer;
  over = false;
}

-- control is asked where the number is above that of its newest tick, as it is in each run
abbrev pub number_step : ℕ → ℕ → Brain → Bank → Stepped
number_step n marks c b =
    if nat_lt c.control.number n
    then asked n marks (ticked c n marks) c b
    else goes_on (record c { tick_at = tick.Lower }) (Reads reg.TickState)

abbrev pub after_off : Progress → AllOff → TickAt
after_off Done at = tick.DutyOff
after_off More at = tick.Off at
after_off (Later t) at = tick.Off at

abbrev pub off_step : Acted AllOff → Brain → Stepped
off_step s c = goes_on (record c { drive = record c.drive { gates = s.gates }; tick_at = after_off s.answer s.place }) s.access

abbrev pub tick_step : TickAt → Brain → Bank → Stepped
tick_step tick.Raise c b = goes_on (record c { hold = 8; tick_at = tick.Read }) (Writes reg.Mask 1)
tick_step tick.Read c b = number_step (number_in (read_value b reg.TickState)) (marks_in (read_value b reg.TickState) c.line.active) c b
tick_step (tick.Off at) c b = off_step (all_off_step at c.drive.gates b) c
tick_step tick.DutyOff c b = goes_on (record c { tick_at = tick.DriveOff }) (Writes reg.Duty 0)
tick_step tick.DriveOff c b = goes_on (record c { drive = record c.drive { postponed = false }; tick_at = tick.Lower }) (Writes reg.DriveOff 1)
tick_step (tick.DutyOn start) c b = goes_on (record c { tick_at = if start then tick.Start else tick.Lower }) (Writes reg.Duty c.control.demand)
tick_step tick.Start c b = goes_on (record c { tick_at = tick.Lower }) (Writes reg.CommAt b.time)
tick_step tick.Lower c b = goes_on (record c { tick_at = tick.Back }) (Writes reg.Mask 0)
tick_step tick.Back c b = goes_back (record c { tick_at = tick.Shut })
tick_step tick.Shut c b = goes_back (record c { tick_at = tick.Shut })
