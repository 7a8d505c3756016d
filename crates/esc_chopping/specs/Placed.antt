-- At which ticks PWM was entered, read the position and wrote what it asks for.
use Rattle.std.specs.Prelude.{◌≡◌, ◌≤◌, ◌+◌, ℕ, true, false}
use Rattle.esc_chopping.specs.View.{View}

-- as it stands before a step at tick x or later
pub record Placed (cost x : ℕ) (v : View) : Type 0 where
  pub entered : v.entered ≤ x
  pub sampled : v.sampled ≤ x
  pub wrote : v.wrote ≤ v.sampled
  pub after_entry : v.pwm ≡ true → 2 ≤ v.pwm_own → v.entered ≤ v.sampled
  pub after_sample : v.pwm ≡ true → 2 ≤ v.pwm_own → v.sampled + cost ≤ x
  pub written : v.pwm ≡ true → 5 ≤ v.pwm_own → v.wrote ≡ v.sampled
  pub shut : v.pwm ≡ false → v.entered ≤ v.wrote
  pub few : v.pwm_own ≤ 12
  pub patient : v.pwm_waits ≤ 8
  pub comm_patient : v.comm_waits ≤ 8
