-- The machine steps up to a tick, and ticks at which one should have stood.
use Rattle.std.specs.Prelude.{◌≡◌, ◌≤◌, ◌<◌, ℕ, false, if◌then◌else◌, nat_le, List, [], ◌∷◌}
use Rattle.esc_base.specs.declared.event.Event.{Event}
use Rattle.esc_laws.specs.Steps.{Turned, free, after}
use Rattle.esc_chopping.specs.View.{View, view, pwm_called, comm_called}

-- the steps at ticks up to t
abbrev pub steps_by : ℕ → List Turned → List Turned
steps_by t [] = []
steps_by t (e ∷ log) = if nat_le e.tick t then e ∷ steps_by t log else []

-- what the steps up to tick t say, those at t included
abbrev pub at_tick : ℕ → List Turned → View
at_tick t log = view (steps_by t log)

-- neither COMM nor PWM is open or called
pub record BothIdle (v : View) (t : ℕ) : Type 0 where
  pub comm : v.comm ≡ false
  pub pwm : v.pwm ≡ false
  pub pwm_called : pwm_called v t ≡ false
  pub comm_called : comm_called v t ≡ false

-- no free tick is passed over while one of them is open or called
abbrev pub NonePassed : ℕ → List Event → List Turned → ℕ → Type 0
NonePassed cost trace before until = (t : ℕ) → after cost trace before ≤ t → t < until → free trace t ≡ t → BothIdle (view before) t
