-- What a run gives for each machine step, by the steps before it: all that `Chopped` is derived from.
use Rattle.std.specs.Prelude.{◌≡◌, ◌≤◌, ◌<◌, ◌+◌, ◌%◌, ℕ, Bool, true, false, not, ◌&&◌, ◌==◌, nat_le, List, [], ◌∷◌, ◌++◌}
use Rattle.esc_base.specs.Times.{pwm_period}
use Rattle.esc_base.specs.declared.gate.Leg.{Leg}
use Rattle.esc_base.specs.Legs.{is_on}
use Rattle.commutation.specs.Sectors.{high_of}
use Rattle.esc_base.specs.declared.event.Event.{Event}
use Rattle.esc_laws.specs.Steps.{Turned, after}
use Rattle.esc_chopping.specs.View.{By, View, view, by_of}
use Rattle.gate_driver.specs.Gated.{at_leg}
use Rattle.esc_chopping.specs.View.By.{CommEnters, CommSteps, PwmEnters, PwmSteps, Lower}
use Rattle.esc_chopping.specs.Log.{NonePassed}

-- ---- whose turn a step is

-- COMM makes at most 24 own steps
pub record CommOwn (v : View) : Type 0 where
  pub is_open : v.comm ≡ true
  pub few : v.comm_own + 1 ≤ 24

pub record BothShut (v : View) : Type 0 where
  pub comm : v.comm ≡ false
  pub pwm : v.pwm ≡ false

-- PWM makes its own steps, returns from its fifth one on, and has at most 12
pub record PwmOwn (v : View) (returns : Bool) : Type 0 where
  pub comm : v.comm ≡ false
  pub is_open : v.pwm ≡ true
  pub few : v.pwm_own + 1 ≤ 12
  pub all : returns ≡ true → 5 ≤ v.pwm_own + 1

-- COMM stands above PWM, and both above all other kinds
abbrev pub IsTurn : View → By → Type 0
IsTurn v CommEnters = v.comm ≡ false
IsTurn v (CommSteps l) = CommOwn v
IsTurn v PwmEnters = BothShut v
IsTurn v (PwmSteps l) = PwmOwn v l
IsTurn v Lower = BothShut v

-- A step stands at a tick at which one may stand, no call was passed over before it, and it is its kind's turn. PWM and COMM
-- are entered after at most 8 counted steps.
pub record StepMade (cost : ℕ) (trace : List Event) (before : List Turned) (e : Turned) : Type 0 where
  pub later : after cost trace before ≤ e.tick
  pub none_passed : NonePassed cost trace before e.tick
  pub turn : IsTurn (view before) (by_of e)
  pub pwm_patient : (view (before ++ e ∷ [])).pwm_waits ≤ 8
  pub comm_patient : (view (before ++ e ∷ [])).comm_waits ≤ 8

-- ---- what it does to the gates

-- a step that writes no gate while the demand is above 0
abbrev pub is_quiet : View → By → Bool
is_quiet v CommEnters = true
is_quiet v (CommSteps l) = false
is_quiet v PwmEnters = true
is_quiet v (PwmSteps l) = not (v.pwm_own == 4)
is_quiet v Lower = true

-- an own step of COMM
abbrev pub is_comm_step : By → Bool
is_comm_step CommEnters = false
is_comm_step (CommSteps l) = true
is_comm_step PwmEnters = false
is_comm_step (PwmSteps l) = false
is_comm_step Lower = false

-- the pair's high switch may turn on
abbrev pub may_chop : View → ℕ → Bool
may_chop v t = not (v.sector == 0) && (not (is_on v.lo (high_of v.sector)) && nat_le (at_leg v.lo_free (high_of v.sector)) t)

-- PWM's fifth own step writes what the position that its second one read asks for
pub record Chops (v : View) (t : ℕ) (w : View) : Type 0 where
  pub on : v.sampled % pwm_period < v.demand → may_chop v t ≡ true → is_on w.hi (high_of v.sector) ≡ true
  pub off : v.demand ≤ v.sampled % pwm_period → (x : Leg) → is_on w.hi x ≡ false

-- while there is a demand only COMM's own steps change low switches, and only these and PWM's fifth own step high ones
pub record DriveFits (before : List Turned) (e : Turned) : Type 0 where
  pub quiet_high : 0 < (view before).demand → is_quiet (view before) (by_of e) ≡ true → (view (before ++ e ∷ [])).hi ≡ (view before).hi
  pub quiet_low : 0 < (view before).demand → is_comm_step (by_of e) ≡ false → (view (before ++ e ∷ [])).lo ≡ (view before).lo
  pub chops : (returns : Bool) → by_of e ≡ PwmSteps returns → (view before).pwm_own ≡ 4 → Chops (view before) e.tick (view (before ++ e ∷ []))
