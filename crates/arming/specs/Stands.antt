-- What control keeps is what the notes of a journal so far say, field by field.
use Rattle.std.specs.Prelude.{◌≡◌, ◌≤◌, ◌<◌, ℕ, Bool, true, false, min, List, ◌∷◌, Option, Some, None}
use Rattle.esc_base.specs.declared.tick.Tick.{Tick}
use Rattle.esc_base.specs.declared.note.Cause.{Cause}
use Rattle.esc_base.specs.declared.note.Note.{Note}
use Rattle.esc_base.specs.declared.note.Note.TheVariants as note
use Rattle.esc_base.specs.Numbers.{cause_number, mode_number}
use Rattle.esc_base.specs.Times.{arming_frames}
use Rattle.dshot_commands.specs.declared.act.Act.{Act}
use Rattle.dshot_commands.specs.Act.{number_of}
use Rattle.dshot_commands.specs.Repeats.{is_command, run_of}
use Rattle.arming.specs.declared.decision.Ticked.{Ticked}
use Rattle.arming.specs.Kept.{Kept}
use Rattle.arming.specs.ControlAt.{armed_at, base_at, demand_at, mode_at, newest_at, number_at, number_at_frame, number_at_timeout, repeated_at, wanted_at, zeros_at}
use Rattle.arming.specs.Controlled.{owed, ControlledBack}

pub record IsKept (c : Kept) (back : List Note) : Type 0 where
  pub mode_is : mode_number c.mode ≡ mode_at back
  pub armed_is : c.armed ≡ armed_at back
  pub wanted_is : c.wanted ≡ wanted_at back
  pub demand_is : c.demand ≡ demand_at back
  pub zero_is : c.zero_run ≡ min arming_frames (zeros_at back)
  pub number_is : c.number ≡ number_at back
  pub newest_is : c.newest ≡ newest_at back
  pub base_is : c.base ≡ base_at back
  pub frame_most : number_at_frame back ≤ number_at back
  pub timeout_most : number_at_timeout back ≤ number_at back
  -- after a frame with value 0 no command has a run; while control is armed, each command has that of the notes, up to 7
  pub quiet : 0 < zeros_at back → c.run.frames ≡ 0
  pub runs : armed_at back ≡ true → (v : ℕ) → is_command v ≡ true → run_of c.run v ≡ min 7 (repeated_at v back)

-- a note of which control keeps something
abbrev pub changes_control : Note → Bool
changes_control (note.Good t v q) = true
changes_control (note.Detected t m) = true
changes_control (note.Control t n s d) = true
changes_control (note.Armed t) = true
changes_control (note.Lost t c) = true
changes_control n = false

-- control keeps what these notes say, the newest first; each fits those before it, and no further one is owed
pub record Stands (c : Kept) (back : List Note) : Type 0 where
  pub ties : IsKept c back
  pub controlled : ControlledBack back
  pub none_owed : owed back ≡ None

-- the notes so far and those of a good frame: its G with telemetry bit q, and an M where its command acts
abbrev pub with_frame : Tick → ℕ → ℕ → Option Act → List Note → List Note
with_frame t v q None back = note.Good t v q ∷ back
with_frame t v q (Some act) back = note.Command t (number_of act) ∷ note.Good t v q ∷ back

-- the notes so far and an X or an A, where there is one
abbrev pub with_outcome : Tick → Option Cause → Bool → List Note → List Note
with_outcome t (Some cause) armed_now back = note.Lost t (cause_number cause) ∷ back
with_outcome t None true back = note.Armed t ∷ back
with_outcome t None false back = back

-- the notes so far and those of control tick n with marks s: its K, and an X or an A where there is one
abbrev pub with_tick : Tick → ℕ → ℕ → Ticked → List Note → List Note
with_tick t n s answer back = with_outcome t answer.lost answer.armed_now (note.Control t n s answer.demand ∷ back)
