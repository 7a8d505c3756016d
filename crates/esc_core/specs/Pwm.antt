-- The steps of PWM: it chops once, under the mask, and returns.
use Rattle.std.specs.Prelude.{ℕ, false, []}
use Rattle.timer_regs.specs.Bank.{Bank}
use Rattle.gate_driver.specs.declared.progress.Progress.{Progress}
use Rattle.gate_driver.specs.declared.progress.Progress.TheVariants.{More, Done, Later}
use Rattle.gate_driver.specs.declared.chop.Chop.{Chop}
use Rattle.gate_driver.specs.declared.chop.Chop.TheVariants as chop
use Rattle.gate_driver.specs.Acted.{Acted}
use Rattle.gate_driver.specs.Chop.{chop_step}
use Rattle.esc_core.specs.declared.state.PwmAt.{PwmAt}
use Rattle.esc_core.specs.declared.state.PwmAt.TheVariants as pwm
use Rattle.esc_core.specs.Brain.{Brain}
use Rattle.esc_core.specs.Stepped.{Stepped, goes_back}

-- the first step raises the mask
abbrev pub hold_after : Chop → ℕ → ℕ
hold_after chop.Raise hold = 8
hold_after at hold = hold

-- where a high switch has to wait the program goes on without it
abbrev pub place_after : Progress → Chop → PwmAt
place_after Done at = pwm.Back
place_after More at = pwm.Run at
place_after (Later t) at = pwm.Run at

-- a step of chopping from a place
abbrev pub chopped : Chop → Acted Chop → Brain → Stepped
chopped at s c = record {
  core = record c { drive = record c.drive { gates = s.gates }; hold = hold_after at c.hold; pwm_at = place_after s.answer s.place };
  access = s.access;
  notes = [];
  over = false;
}

abbrev pub pwm_step : PwmAt → Brain → Bank → Stepped
pwm_step (pwm.Run at) c b = chopped at (chop_step at c.drive.gates b) c
pwm_step pwm.Back c b = goes_back (record c { pwm_at = pwm.Shut })
pwm_step pwm.Shut c b = goes_back (record c { pwm_at = pwm.Shut })
