-- Events of pulse width modulation (PWM): while the duty is above 0, one at the start of each period and one where its duty ends.
use Rattle.std.specs.Prelude.{ℕ, ◌+◌, ◌-◌, ◌%◌, Bool, ◌&&◌, ◌==◌, if◌then◌else◌, nat_lt, Option, Some, None}
use Rattle.esc_base.specs.Times.{pwm_period}
use Rattle.esc_base.specs.Periods.{edges}

-- there is one after a tick and at or before another
abbrev pub has_edge : ℕ → ℕ → ℕ → Bool
has_edge duty after to = nat_lt 0 duty && nat_lt (edges duty after) (edges duty to)

-- the first one after t: the end of the duty in its period, or the start of the next one
abbrev pub edge_after : ℕ → ℕ → Option ℕ
edge_after duty t =
    if duty == 0 then None
    else Some ((t - t % pwm_period) + (if nat_lt (t % pwm_period) duty then duty else pwm_period))
