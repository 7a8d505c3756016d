-- What a list of machine steps says of the drive, by their notes and by whose steps they are. Nothing here knows a register.
use Rattle.std.specs.Prelude.{ℕ, ◌+◌, Bool, true, false, not, ◌&&◌, ◌||◌, ◌==◌, if◌then◌else◌, nat_lt, nat_le, List, [], ◌∷◌}
use Rattle.std.specs.List.{fold}
use Rattle.esc_base.specs.declared.kind.Kind.{Kind}
use Rattle.esc_base.specs.declared.note.Note.{Note}
use Rattle.esc_base.specs.Legs.{is_on}
use Rattle.commutation.specs.Sectors.{low_of}
use Rattle.esc_base.specs.declared.kind.Kind.TheVariants as kind
use Rattle.esc_base.specs.Periods.{edges}
use Rattle.gate_driver.specs.Gated.{Legs, at_leg, offs, no_legs}
use Rattle.esc_laws.specs.Steps.{Turned}
use Rattle.esc_base.specs.declared.note.Note.TheVariants as note

-- the step ends its activation: an O stands among its notes
abbrev pub has_leave : List Note → Bool
has_leave [] = false
has_leave (note.Leave t k ∷ notes) = true
has_leave (n ∷ notes) = has_leave notes

-- whose step it is, as far as the drive is concerned; a Bool says that the step ends its activation
pub data By : Type 0 where
  CommEnters : By
  CommSteps : Bool → By
  PwmEnters : By
  PwmSteps : Bool → By
  Lower : By

abbrev pub by_kind : Kind → Bool → Bool → By
by_kind kind.Comm true l = CommEnters
by_kind kind.Comm false l = CommSteps l
by_kind kind.Pwm true l = PwmEnters
by_kind kind.Pwm false l = PwmSteps l
by_kind k e l = Lower

abbrev pub by_of : Turned → By
by_of e = by_kind e.kind e.enters (has_leave e.notes)

-- the gates, what was asked of the drive, and how far COMM and PWM have come
pub record View : Type 0 where
  -- the gate word, and from when on the other switch of each leg may turn on
  pub hi : ℕ
  pub lo : ℕ
  pub hi_free : Legs
  pub lo_free : Legs
  -- the newest K's demand, and the newest Q's sector and tick
  pub demand : ℕ
  pub sector : ℕ
  pub stepped : ℕ
  -- COMM is open, and how many own steps it has made
  pub comm : Bool
  pub comm_own : ℕ
  -- the same of PWM
  pub pwm : Bool
  pub pwm_own : ℕ
  -- the tick of PWM's newest entry, and whether a K with demand above 0 stands since
  pub entered : ℕ
  pub asked : Bool
  -- the tick of the newest second own step of PWM, which reads the position; and what this was at the newest fifth one,
  -- which writes
  pub sampled : ℕ
  pub wrote : ℕ
  -- through how many counted steps PWM, and COMM, have been called
  pub pwm_waits : ℕ
  pub comm_waits : ℕ

abbrev pub unmoved : View
unmoved = record {
  hi = 0;
  lo = 0;
  hi_free = no_legs;
  lo_free = no_legs;
  demand = 0;
  sector = 0;
  stepped = 0;
  comm = false;
  comm_own = 0;
  pwm = false;
  pwm_own = 0;
  entered = 0;
  asked = false;
  sampled = 0;
  wrote = 0;
  pwm_waits = 0;
  comm_waits = 0;
}

-- after a note
abbrev pub told_by : View → Note → View
told_by v (note.Gate t hi lo) = record v { hi = hi; lo = lo; hi_free = offs v.hi_free v.hi hi t.0; lo_free = offs v.lo_free v.lo lo t.0 }
told_by v (note.Control t number marks d) = record v { demand = d; asked = not (d == 0) }
told_by v (note.Step t s) = record v { sector = s; stepped = t.0 }
told_by v n = v

-- after a step at t, before its notes are counted
abbrev pub moved_by : View → By → ℕ → View
moved_by v CommEnters t = record v { comm = true; comm_own = 0 }
moved_by v (CommSteps l) t = record v { comm = not l; comm_own = v.comm_own + 1 }
moved_by v PwmEnters t = record v { pwm = true; pwm_own = 0; entered = t; asked = false }
moved_by v (PwmSteps l) t = record v {
  pwm = not l;
  pwm_own = v.pwm_own + 1;
  sampled = if v.pwm_own == 1 then t else v.sampled;
  wrote = if v.pwm_own == 4 then v.sampled else v.wrote;
}
moved_by v Lower t = v

-- PWM is called: an edge or a K stands since its newest entry
abbrev pub pwm_called : View → ℕ → Bool
pwm_called v t = (nat_lt 0 v.demand && (v.asked || nat_lt (edges v.demand v.entered) (edges v.demand t))) && not v.pwm

-- COMM is called: the low switch of the newest sector's pair is off, and may turn on. (A unmoved, a crossing and the forced limit
-- call it too.)
abbrev pub comm_called : View → ℕ → Bool
comm_called v t = (nat_lt 0 v.demand && (not (is_on v.lo (low_of v.sector)) && nat_le (at_leg v.hi_free (low_of v.sector)) t)) && not v.comm

abbrev pub is_comm : By → Bool
is_comm CommEnters = true
is_comm (CommSteps l) = true
is_comm PwmEnters = false
is_comm (PwmSteps l) = false
is_comm Lower = false

-- how long a kind has been called: one step more if this step is counted and the kind was called before it and is so after it
abbrev pub wait_next : Bool → Bool → Bool → ℕ → ℕ
wait_next before after counted w = if before && after then (if counted then w + 1 else w) else 0

-- after a step and its notes, but for the counts of waiting steps
abbrev pub view_turned : View → Turned → View
view_turned v e = fold told_by (moved_by v (by_of e) e.tick) e.notes

abbrev pub view_next : View → Turned → View
view_next v e = record (view_turned v e) {
  pwm_waits = wait_next (pwm_called v e.tick) (pwm_called (view_turned v e) e.tick) (not (is_comm (by_of e))) v.pwm_waits;
  comm_waits = wait_next (comm_called v e.tick) (comm_called (view_turned v e) e.tick) true v.comm_waits;
}

-- what these steps say
unfoldable pub view : List Turned → View
view log = fold view_next unmoved log
