-- The window timer waits until the signal line has rested.
use Rattle.std.specs.Prelude.{ℕ, ◌+◌, nat_le, max, if◌then◌else◌, Option, Some, None}
use Rattle.esc_base.specs.Times.{rest}

-- the tick at which the line has rested long enough, from its newest change; a line that hasn't changed has from the start
abbrev pub rests_from : Option ℕ → ℕ
rests_from None = 0
rests_from (Some changed) = changed + rest

-- a change of the line at tick t puts off an armed timer until the line has rested since; what was reached stays reached
abbrev pub put_off : Option ℕ → ℕ → Option ℕ
put_off None t = None
put_off (Some at) t = if nat_le at t then Some at else Some (max at (t + rest))
