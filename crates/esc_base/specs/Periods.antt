-- Periods of pulse width modulation begin at the multiples of `pwm_period`. While a duty from 1 to 1900 stands, an edge stands
-- at each start, and at the end of the duty, so many ticks after it.
use Rattle.std.specs.Prelude.{◌≡◌, ◌<◌, ℕ, ◌+◌, ◌-◌, ◌/◌, ◌%◌, Bool, ◌||◌, ◌==◌, if◌then◌else◌}
use Rattle.esc_base.specs.Times.{pwm_period}

abbrev pub is_edge : ℕ → ℕ → Bool
is_edge duty t = (t % pwm_period == 0) || (t % pwm_period == duty)

-- how many edges stand at ticks from 1 up to t: starts of periods, and ends of duties
abbrev pub edges : ℕ → ℕ → ℕ
edges duty t = t / pwm_period + (t + pwm_period - duty) / pwm_period

-- that count goes up by one at each edge and nowhere else
abbrev pub CountsEdges : Type 0
CountsEdges = (duty t : ℕ) → 0 < duty → duty < pwm_period → 0 < t → edges duty t ≡ edges duty (t - 1) + (if is_edge duty t then 1 else 0)
