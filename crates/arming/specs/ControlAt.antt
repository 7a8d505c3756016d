-- Control at a place of a journal, from the notes before that place, the newest first. Nothing is kept: each definition looks
-- back. In a journal's lines K is a control tick, A an arming, X a loss of control, M a command that acts and P a save.
use Rattle.std.specs.Prelude.{ℕ, ◌+◌, Bool, true, false, ◌==◌, ◌&&◌, ◌||◌, nat_le, min, max, if◌then◌else◌, List, [], ◌∷◌}
use Rattle.esc_base.specs.declared.note.Note.{Note}
use Rattle.esc_base.specs.declared.note.Note.TheVariants as note
use Rattle.esc_base.specs.Times.{arming_frames, least_throttle}
use Rattle.dshot_commands.specs.Repeats.{is_command}
use Rattle.commutation.specs.Commutated.{stuck_at}
use Rattle.arming.specs.Decide.{View}

-- control is armed: an A stands with no X after it
abbrev pub armed_at : List Note → Bool
armed_at [] = false
armed_at (note.Armed t ∷ back) = true
armed_at (note.Lost t c ∷ back) = false
armed_at (n ∷ back) = armed_at back

-- the number of the newest detected mode, or 0 where an X of cause 0, a timeout, stands after it
abbrev pub mode_at : List Note → ℕ
mode_at [] = 0
mode_at (note.Detected t m ∷ back) = m
mode_at (note.Lost t c ∷ back) = if c == 0 then 0 else mode_at back
mode_at (n ∷ back) = mode_at back

-- the demand of the newest K
abbrev pub demand_at : List Note → ℕ
demand_at [] = 0
demand_at (note.Control t n s d ∷ back) = d
demand_at (n ∷ back) = demand_at back

-- the number of the newest K
abbrev pub number_at : List Note → ℕ
number_at [] = 0
number_at (note.Control t n s d ∷ back) = n
number_at (n ∷ back) = number_at back

-- the newest good frame's value, where it is throttle and no X stands after it; else 0
abbrev pub wanted_at : List Note → ℕ
wanted_at [] = 0
wanted_at (note.Good t v q ∷ back) = if nat_le least_throttle v then v else 0
wanted_at (note.Lost t c ∷ back) = 0
wanted_at (n ∷ back) = wanted_at back

-- how many good frames with value 0 stand after the newest X and the newest good frame with another value
abbrev pub zeros_at : List Note → ℕ
zeros_at [] = 0
zeros_at (note.Good t v q ∷ back) = if v == 0 then zeros_at back + 1 else 0
zeros_at (note.Lost t c ∷ back) = 0
zeros_at (n ∷ back) = zeros_at back

-- the number of the newest K before the newest good frame
abbrev pub number_at_frame : List Note → ℕ
number_at_frame [] = 0
number_at_frame (note.Good t v q ∷ back) = number_at back
number_at_frame (n ∷ back) = number_at_frame back

-- the number of the newest K before the newest timeout
abbrev pub number_at_timeout : List Note → ℕ
number_at_timeout [] = 0
number_at_timeout (note.Lost t c ∷ back) = if c == 0 then number_at back else number_at_timeout back
number_at_timeout (n ∷ back) = number_at_timeout back

-- the control tick from which the time without a good frame counts
abbrev pub newest_at : List Note → ℕ
newest_at back = max (number_at_frame back) (number_at_timeout back)

-- the number of the newest K before the newest X: from there the time until control may arm counts
abbrev pub base_at : List Note → ℕ
base_at [] = 0
base_at (note.Lost t c ∷ back) = number_at back
base_at (n ∷ back) = base_at back

-- a good frame at this place is still: control is armed, with demand 0
abbrev pub still_at : List Note → Bool
still_at back = armed_at back && (demand_at back == 0)

-- how many of the newest good frames in a row were still and have this value
abbrev pub repeated_at : ℕ → List Note → ℕ
repeated_at value [] = 0
repeated_at value (note.Good t v q ∷ back) = if still_at back && (v == value) then repeated_at value back + 1 else 0
repeated_at value (n ∷ back) = repeated_at value back

-- how many times in a row the command with this value has come with a good frame at this place; 0 where it is no still command
abbrev pub command_run_at : ℕ → List Note → ℕ
command_run_at value back = if still_at back && is_command value then repeated_at value back + 1 else 0

-- a save is asked for: command 12 acted, and no P stands since
abbrev pub asked_at : List Note → Bool
asked_at [] = false
asked_at (note.Saved t r ∷ back) = false
asked_at (note.Command t c ∷ back) = (c == 12) || asked_at back
asked_at (n ∷ back) = asked_at back

-- ---- the marks of a K at this place: what the notes before it say. 1, stuck, stands where sixty forced Q stood in a row
-- since the newest K with demand 0 (`stuck_at`)

-- 2, fuse: so far no watcher looks at a run
abbrev pub fuse_at : List Note → Bool
fuse_at back = false

-- 4, session: a four-way session is active. An acknowledged 37 begins one, and an acknowledged 34 or 35 ends it
abbrev pub session_next : ℕ → Bool → Bool
session_next cc active = if cc == 0x37 then true else (if (cc == 0x34) || (cc == 0x35) then false else active)

abbrev pub session_at : List Note → Bool
session_at [] = false
session_at (note.Packet t cc kk ∷ back) = if kk == 0 then session_next cc (session_at back) else session_at back
session_at (n ∷ back) = session_at back

abbrev pub marks_at : List Note → ℕ
marks_at back = (if stuck_at back then 1 else 0) + (if fuse_at back then 2 else 0) + (if session_at back then 4 else 0)

-- ---- all of it

abbrev pub control_at : List Note → View
control_at back = record {
  armed = armed_at back;
  wanted = wanted_at back;
  demand = demand_at back;
  zero_run = min arming_frames (zeros_at back);
  newest = newest_at back;
  base = base_at back;
}
