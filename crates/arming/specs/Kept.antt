-- What control keeps, and how each call changes it.
use Rattle.std.specs.Prelude.{ℕ, ◌+◌, Bool, false, true, ◌==◌, ◌&&◌, nat_le, min, if◌then◌else◌}
use Rattle.esc_base.specs.declared.signal.Mode.{Mode}
use Rattle.esc_base.specs.declared.signal.Mode.TheVariants.{Unknown}
use Rattle.esc_base.specs.declared.note.Cause.{Cause}
use Rattle.esc_base.specs.declared.note.Cause.TheVariants as cause
use Rattle.esc_base.specs.Times.{arming_frames, least_throttle}
use Rattle.dshot_commands.specs.Repeats.{no_run, run_after, Run}
use Rattle.arming.specs.declared.decision.Decision.{Decision}
use Rattle.arming.specs.declared.decision.Decision.TheVariants.{Loses, Arms, Drives}
use Rattle.arming.specs.Decide.{View}

pub record Kept : Type 0 where
  pub mode : Mode
  pub armed : Bool
  pub wanted : ℕ
  pub demand : ℕ
  -- good frames with value 0 in a row, up to what arming takes
  pub zero_run : ℕ
  -- the number of the newest control tick
  pub number : ℕ
  -- the number of the control tick before the newest good frame, or that of the newest timeout, if that is later
  pub newest : ℕ
  -- the number of the control tick that lost control last
  pub base : ℕ
  pub run : Run

abbrev pub start : Kept
start = record { mode = Unknown; armed = false; wanted = 0; demand = 0; zero_run = 0; number = 0; newest = 0; base = 0; run = no_run }

abbrev pub view_of : Kept → View
view_of c = record { armed = c.armed; wanted = c.wanted; demand = c.demand; zero_run = c.zero_run; newest = c.newest; base = c.base }

abbrev pub is_still : Kept → Bool
is_still c = c.armed && (c.demand == 0)

-- a mode is detected
abbrev pub after_found : Kept → Mode → Kept
after_found c mode = record c { mode = mode }

-- a good frame with this value comes
abbrev pub after_frame : Kept → ℕ → Kept
after_frame c value = record c {
  wanted = if nat_le least_throttle value then value else 0;
  zero_run = if value == 0 then min arming_frames (c.zero_run + 1) else 0;
  newest = c.number;
  run = run_after c.run value (is_still c);
}

abbrev pub mode_after_loss : Cause → Mode → Mode
mode_after_loss cause.Timeout mode = Unknown
mode_after_loss cause.Stuck mode = mode
mode_after_loss cause.Fuse mode = mode

abbrev pub newest_after_loss : Cause → ℕ → ℕ → ℕ
newest_after_loss cause.Timeout n newest = n
newest_after_loss cause.Stuck n newest = newest
newest_after_loss cause.Fuse n newest = newest

-- control is lost in control tick n
abbrev pub after_loss : Kept → ℕ → Cause → Kept
after_loss c n cause = record {
  mode = mode_after_loss cause c.mode;
  armed = false;
  wanted = 0;
  demand = 0;
  zero_run = 0;
  number = n;
  newest = newest_after_loss cause n c.newest;
  base = n;
  run = no_run;
}

-- control tick n, with its decision
abbrev pub after_tick : Kept → ℕ → Decision → Kept
after_tick c n (Loses cause) = after_loss c n cause
after_tick c n Arms = record c { number = n; armed = true; demand = 0 }
after_tick c n (Drives demand) = record c { number = n; demand = demand }
