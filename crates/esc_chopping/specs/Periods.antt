-- `Chopped`, as it is said of the machine steps of a run: its premises, what a run gives for them, and what follows.
use Rattle.std.specs.Prelude.{◌≡◌, ◌≤◌, ◌<◌, ◌+◌, ◌-◌, ◌*◌, ℕ, true, false, List, []}
use Rattle.esc_base.specs.Times.{chopping_steps, most_duty, pwm_period}
use Rattle.esc_base.specs.Legs.{is_on}
use Rattle.commutation.specs.Sectors.{high_of, low_of}
use Rattle.esc_base.specs.declared.event.Event.{Event}
use Rattle.esc_chopping.specs.Stalls.{NoStall}
use Rattle.esc_laws.specs.Steps.{Turned, EachStep}
use Rattle.esc_chopping.specs.View.{by_of}
use Rattle.gate_driver.specs.Gated.{at_leg}
use Rattle.esc_chopping.specs.View.By.{CommEnters}
use Rattle.esc_chopping.specs.Log.{at_tick, NonePassed}
use Rattle.esc_chopping.specs.Laws.{StepMade, DriveFits}
use Rattle.esc_chopping.specs.Pairs.{PairFits, TimesFit, NoStep}

-- COMM isn't entered from p to p + 1999
abbrev pub NoComm : ℕ → List Turned → Turned → Type 0
NoComm p before e = p ≤ e.tick → e.tick < p + pwm_period → by_of e ≡ CommEnters → ⊥

-- nothing disturbs the period at p = 2000 m: its demand is d and its sector s
pub record UndisturbedLog (cost : ℕ) (trace : List Event) (log : List Turned) (m d s : ℕ) : Type 0 where
  pub drives : 0 < d
  pub duty : d ≤ most_duty
  pub later : 0 < m
  -- the newest K at or before p - 48 cost, and every later one before p + 2000, has demand d
  pub demand : (u : ℕ) → pwm_period * m ≤ u + chopping_steps * cost → u < pwm_period * m + pwm_period → (at_tick u log).demand ≡ d
  pub stalls : NoStall (pwm_period * m - chopping_steps * cost) (pwm_period * m + (pwm_period - 1)) trace
  -- a Q stands before p, the newest one's sector is s, and no Q and no I of COMM stands at p to p + 1999
  pub some_sector : 0 < s
  pub sector : (at_tick (pwm_period * m - 1) log).sector ≡ s
  pub none_steps : EachStep (NoStep (pwm_period * m)) [] log
  pub none_enters : EachStep (NoComm (pwm_period * m)) [] log
  -- the low switch of the pair's high leg has never been on, or last went off at or before p - 48
  pub high_free : at_leg (at_tick (pwm_period * m - 1) log).lo_free (high_of s) ≤ pwm_period * m

-- each step is as a run makes it, and all steps below the tick `until` are made
pub record LogFits (cost : ℕ) (trace : List Event) (until : ℕ) (log : List Turned) : Type 0 where
  pub fits : EachStep (StepMade cost trace) [] log
  pub times : EachStep TimesFit [] log
  pub pairs : EachStep PairFits [] log
  pub drives : EachStep DriveFits [] log
  pub all_made : NonePassed cost trace log until

-- what `Chopped` asks of the period, as the gates stand after the steps up to each tick
pub record ChoppedLog (cost until : ℕ) (log : List Turned) (m d s : ℕ) : Type 0 where
  pub high_on : (t : ℕ) → t < until → pwm_period * m + chopping_steps * cost ≤ t → t ≤ pwm_period * m + d → is_on (at_tick t log).hi (high_of s) ≡ true
  pub high_off : (t : ℕ) → t < until → pwm_period * m + d + chopping_steps * cost ≤ t → t < pwm_period * m + pwm_period
      → is_on (at_tick t log).hi (high_of s) ≡ false
  pub low_on : (t : ℕ) → t < until → pwm_period * m + chopping_steps * cost ≤ t → t < pwm_period * m + pwm_period → is_on (at_tick t log).lo (low_of s) ≡ true
  pub other_low_off : (t : ℕ) → pwm_period * m + chopping_steps * cost ≤ t → t < pwm_period * m + pwm_period → is_on (at_tick t log).lo (high_of s) ≡ false
