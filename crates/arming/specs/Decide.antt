-- What a control tick decides.
use Rattle.std.specs.Prelude.{ℕ, ◌+◌, ◌-◌, Bool, true, false, not, ◌==◌, ◌&&◌, nat_le, nat_lt, min, if◌then◌else◌, bit_and, Some, None}
use Rattle.esc_base.specs.declared.note.Cause.TheVariants.{Timeout, Stuck, Fuse}
use Rattle.esc_base.specs.Times.{timeout, arming_time, arming_frames, ramp}
use Rattle.arming.specs.declared.marks.Marks.{Marks}
use Rattle.arming.specs.declared.decision.Decision.{Decision}
use Rattle.arming.specs.declared.decision.Decision.TheVariants.{Loses, Arms, Drives}
use Rattle.arming.specs.declared.decision.Ticked.{Ticked}
use Rattle.arming.specs.Throttle.{target}

-- what a control tick decides by
pub record View : Type 0 where
  pub armed : Bool
  -- the newest throttle value, 48 to 2047, or 0
  pub wanted : ℕ
  -- in ticks of 48 MHz
  pub demand : ℕ
  -- good frames with value 0 in a row, up to what arming takes
  pub zero_run : ℕ
  -- the control tick from which the time without a good frame counts
  pub newest : ℕ
  -- the control tick from which the time until control may arm counts
  pub base : ℕ

-- marks as a number: 1 stuck, 2 fuse, 4 session, added
abbrev pub bits_of : Marks → ℕ
bits_of marks = marks.0

abbrev pub is_stuck : ℕ → Bool
is_stuck marks = bit_and marks 1 == 1

abbrev pub has_fuse : ℕ → Bool
has_fuse marks = bit_and marks 2 == 2

abbrev pub has_session : ℕ → Bool
has_session marks = bit_and marks 4 == 4

-- control tick n comes half a second or more after the newest good frame or timeout
abbrev pub is_timed_out : View → ℕ → Bool
is_timed_out c n = nat_le timeout (n - c.newest)

-- enough frames with value 0 came in a row, enough time has passed since the start or the newest loss, and no mark forbids it
abbrev pub may_arm : View → ℕ → ℕ → Bool
may_arm c n marks = ((c.zero_run == arming_frames) && nat_le arming_time (n - c.base)) && (not (has_fuse marks) && not (has_session marks))

-- what control tick n decides with these marks: the first of six cases that applies
abbrev pub decide : View → ℕ → ℕ → Decision
decide c n marks =
    if is_timed_out c n then Loses Timeout
    else (if is_stuck marks then Loses Stuck
    else (if has_fuse marks && c.armed then Loses Fuse
    else (if not c.armed && may_arm c n marks then Arms
    else (if c.armed then Drives (min (target c.wanted) (c.demand + ramp))
    else Drives 0))))

abbrev pub demand_of : Decision → ℕ
demand_of (Loses cause) = 0
demand_of Arms = 0
demand_of (Drives demand) = demand

-- a control tick's answer, from the demand before it; a demand above 0 after one of 0 starts the drive
abbrev pub answer_of : Decision → ℕ → Ticked
answer_of (Loses cause) before = record { demand = 0; armed_now = false; lost = Some cause; start = false }
answer_of Arms before = record { demand = 0; armed_now = true; lost = None; start = false }
answer_of (Drives demand) before = record { demand = demand; armed_now = false; lost = None; start = nat_lt 0 demand && (before == 0) }
