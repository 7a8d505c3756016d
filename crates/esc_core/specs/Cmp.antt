-- The steps of CMP: under the mask it does what the search for the sector's crossing asks for.
use Rattle.std.specs.Prelude.{ℕ, ◌+◌, Bool, true, false, nat_le, [], ◌∷◌}
use Rattle.esc_base.specs.declared.note.Note.TheVariants as note
use Rattle.esc_base.specs.Numbers.{as_tick}
use Rattle.esc_base.specs.Times.{rejected_blanking}
use Rattle.timer_regs.specs.Bank.{Bank}
use Rattle.timer_regs.specs.declared.regs.Reg.TheVariants as reg
use Rattle.interrupt_machine.specs.Did.{NoAccess, Reads, Writes}
use Rattle.zero_cross.specs.declared.phase.Phase.{Phase}
use Rattle.zero_cross.specs.declared.phase.Phase.TheVariants as phase
use Rattle.zero_cross.specs.Kept.{after_changed, is_expected, is_clean, until}
use Rattle.esc_core.specs.declared.state.CmpAt.{CmpAt}
use Rattle.esc_core.specs.declared.state.CmpAt.TheVariants as cmp
use Rattle.esc_core.specs.Brain.{Brain}
use Rattle.esc_core.specs.Drive.{in_phase, crossed, due_at, arms}
use Rattle.esc_core.specs.Stepped.{Stepped, goes_on, goes_back}

-- The comparator is read as blanking is over. Where it has the expected level a filter begins; else its next change, which asks
-- for CMP since the step before, is waited for.
abbrev pub ready_step : Bool → Brain → Bank → Stepped
ready_step true c b = goes_on (record c { cmp_at = cmp.Ack }) (Reads reg.CmpState)
ready_step false c b = goes_on (record c { drive = in_phase c.drive phase.Watch; cmp_at = cmp.Lower }) (Reads reg.CmpState)

-- A filter is judged by what is read of the comparator. Where the expected level stood throughout, that step gives the Z, and
-- the time of the sector change follows; else blanking begins anew.
abbrev pub judged_step : Bool → Brain → Bank → Stepped
judged_step true c b = record {
  core = record c { drive = crossed c.drive b.time; cmp_at = cmp.Commute };
  access = Reads reg.CmpState;
  notes = note.Cross (as_tick b.time) ∷ [];
  over = false;
}
judged_step false c b =
    goes_on (record c { drive = in_phase c.drive (phase.Blank (as_tick (b.time + rejected_blanking))); cmp_at = cmp.Arm }) (Reads reg.CmpState)

-- nothing is due: a higher handler changed the phase since the entry, or there is no search
abbrev pub passes : Brain → Stepped
passes c = goes_on (record c { cmp_at = cmp.Lower }) NoAccess

-- By whether the time of the phase is over. As blanking is over a change of the comparator asks for CMP, and then the
-- comparator is read.
abbrev pub blank_step : Bool → Brain → Bank → Stepped
blank_step true c b = goes_on (record c { cmp_at = cmp.Read }) (Writes reg.CmpEn 1)
blank_step false c b = passes c

abbrev pub filter_step : Bool → Brain → Bank → Stepped
filter_step true c b = judged_step (is_clean c.drive.crossing b.comp b.comp_changed) c b
filter_step false c b = passes c

abbrev pub look_step : Phase → Brain → Bank → Stepped
look_step (phase.Blank end) c b = blank_step (nat_le end.0 b.time) c b
look_step phase.Watch c b = goes_on (record c { cmp_at = cmp.Ack }) NoAccess
look_step (phase.Filter end) c b = filter_step (nat_le end.0 b.time) c b
look_step phase.Off c b = passes c
look_step phase.Done c b = passes c

abbrev pub is_blanked : Phase → ℕ → Bool
is_blanked (phase.Blank end) t = nat_le end.0 t
is_blanked p t = false

-- where blanking isn't over (never in a run) nothing is done
abbrev pub read_step : Bool → Brain → Bank → Stepped
read_step true c b = ready_step (is_expected c.drive.crossing b.comp) c b
read_step false c b = passes c

-- a filter may begin at a tick: a change is waited for, or blanking is over
abbrev pub may_filter : Phase → ℕ → Bool
may_filter (phase.Blank end) t = nat_le end.0 t
may_filter phase.Watch t = true
may_filter p t = false

-- a filter begins as the changed bit is cleared; where none may begin (never in a run) nothing is done
abbrev pub ack_step : Bool → Brain → Bank → Stepped
ack_step true c b = goes_on (record c { drive = record c.drive { crossing = after_changed c.drive.crossing b.time }; cmp_at = cmp.Arm }) (Writes reg.CmpAck 0)
ack_step false c b = passes c

abbrev pub cmp_step : CmpAt → Brain → Bank → Stepped
cmp_step cmp.Raise c b = goes_on (record c { hold = 8; cmp_at = cmp.Look }) (Writes reg.Mask 1)
cmp_step cmp.Look c b = look_step c.drive.crossing.phase c b
cmp_step cmp.Read c b = read_step (is_blanked c.drive.crossing.phase b.time) c b
cmp_step cmp.Ack c b = ack_step (may_filter c.drive.crossing.phase b.time) c b
cmp_step cmp.Arm c b = goes_on (record c { cmp_at = cmp.Lower }) (arms (until c.drive.crossing.phase))
cmp_step cmp.Commute c b = goes_on (record c { cmp_at = cmp.Lower }) (Writes reg.CommAt (due_at c.drive))
cmp_step cmp.Lower c b = goes_on (record c { cmp_at = cmp.Back }) (Writes reg.Mask 0)
cmp_step cmp.Back c b = goes_back (record c { cmp_at = cmp.Shut })
cmp_step cmp.Shut c b = goes_back (record c { cmp_at = cmp.Shut })
