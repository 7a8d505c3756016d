-- What an undisturbed period gives at each of its ticks, for the high switch and for the low one.
use Rattle.std.specs.Prelude.{◌≡◌, ◌≤◌, ◌<◌, ◌+◌, ◌-◌, ◌*◌, ℕ, true, List, []}
use Rattle.commutation.specs.Sectors.{low_of}
use Rattle.esc_base.specs.Times.{chopping_steps, most_duty, pwm_period, dead_time}
use Rattle.esc_base.specs.declared.event.Event.{Event}
use Rattle.esc_chopping.specs.Stalls.{NoStall}
use Rattle.esc_laws.specs.Steps.{Turned, EachStep}
use Rattle.gate_driver.specs.Gated.{at_leg}
use Rattle.esc_chopping.specs.Log.{at_tick}
use Rattle.esc_chopping.specs.Laws.{may_chop}
use Rattle.esc_chopping.specs.Periods.{NoComm}

-- the period at 2000 m has demand d and sector s, and nothing disturbs it
pub record Calm (cost : ℕ) (trace : List Event) (log : List Turned) (m d s : ℕ) : Type 0 where
  pub drives : 0 < d
  pub duty : d ≤ most_duty
  pub later : 0 < m
  pub demand : (u : ℕ) → pwm_period * m ≤ u + chopping_steps * cost → u < pwm_period * m + pwm_period → (at_tick u log).demand ≡ d
  pub stalls : NoStall (pwm_period * m - chopping_steps * cost) (pwm_period * m + (pwm_period - 1)) trace
  pub sector : (u : ℕ) → pwm_period * m ≤ u + 1 → u < pwm_period * m + pwm_period → (at_tick u log).sector ≡ s
  pub none_enters : EachStep (NoComm (pwm_period * m)) [] log
  -- the high switch may turn on, and so may the low one, soon
  pub allowed : (u : ℕ) → pwm_period * m ≤ u + 1 → u < pwm_period * m + pwm_period → may_chop (at_tick u log) (u + 1) ≡ true
  pub low_free : (u : ℕ) → pwm_period * m ≤ u + 1 → u < pwm_period * m + pwm_period → at_leg (at_tick u log).hi_free (low_of s) ≤ pwm_period * m + (dead_time - 9)
