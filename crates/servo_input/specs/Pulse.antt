-- The verdict on a burst as a servo pulse, over the whole list of its edges. The line is high for the pulse's width.
use Rattle.std.specs.Prelude.{ℕ, ◌+◌, ◌-◌, ◌*◌, ◌/◌, Bool, false, not, ◌&&◌, ◌==◌, nat_le, if◌then◌else◌, List, length}
use Rattle.esc_base.specs.declared.signal.Edge.{Edge}
use Rattle.esc_base.specs.declared.signal.Verdict.{Verdict}
use Rattle.esc_base.specs.declared.signal.Verdict.TheVariants.{Good, Bad}
use Rattle.esc_base.specs.declared.signal.Why.TheVariants.{Count, Polarity, Width}
use Rattle.edge_capture.specs.Edges.{edge_at}
use Rattle.esc_base.specs.Times.{least_throttle, microsecond, most_throttle}
use Rattle.servo_input.specs.declared.servo.Servo.{Servo}

-- the pulse's width, from its first edge to its second, in whole microseconds
abbrev pub width_us : List Edge → ℕ
width_us edges = ((edge_at edges 1).t.0 - (edge_at edges 0).t.0) / microsecond

abbrev pub is_servo_width : ℕ → Bool
is_servo_width us = nat_le 800 us && nat_le us 2200

-- At or below the low end the throttle is off, at or above the high one it is full. Between them the throttle values lie
-- evenly, rounded down.
abbrev pub servo_value : ℕ → Servo → ℕ
servo_value us servo =
    if nat_le us servo.low_us then 0
    else if nat_le servo.high_us us then most_throttle
    else least_throttle + (us - servo.low_us) * (most_throttle - least_throttle) / (servo.high_us - servo.low_us)

-- the first fault that applies, else the throttle value of the width
abbrev pub pulse_of : List Edge → Servo → Verdict
pulse_of edges servo =
    if not (length edges == 2) then Bad Count
    else if not (edge_at edges 0).level then Bad Polarity
    else if not (is_servo_width (width_us edges)) then Bad Width
    else Good (record { value = servo_value (width_us edges) servo; telemetry = false })
