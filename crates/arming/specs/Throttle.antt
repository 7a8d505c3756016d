-- How long the high switch is on in a PWM period, in ticks.
use Rattle.std.specs.Prelude.{ℕ, ◌+◌, ◌-◌, ◌*◌, ◌/◌, ◌==◌, if◌then◌else◌}
use Rattle.esc_base.specs.Times.{least_duty, least_throttle, most_duty, most_throttle}

-- throttle 48 to 2047 gives 100 to 1900 ticks
abbrev pub on_of : ℕ → ℕ
on_of value = least_duty + (value - least_throttle) * (most_duty - least_duty) / (most_throttle - least_throttle)

-- the demand that the ramp goes to
abbrev pub target : ℕ → ℕ
target wanted = if wanted == 0 then 0 else on_of wanted
