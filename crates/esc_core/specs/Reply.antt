-- The reply to a good frame of an inverted mode: the period that it tells, and from when to when it stands on the line.
use Rattle.std.specs.Prelude.{ℕ, ◌+◌, ◌*◌, ◌/◌, ◌==◌, max, if◌then◌else◌, List, Option, Some, None}
use Rattle.esc_base.specs.declared.signal.Edge.{Edge}
use Rattle.esc_base.specs.declared.signal.Mode.{Mode}
use Rattle.esc_base.specs.Times.{microsecond, reply_bits, reply_bit}
use Rattle.timer_regs.specs.Reply.{answers_from}

-- the electrical period in whole microseconds, from the sum of six gaps; a sum of 0 is that of no period
abbrev pub period_of : ℕ → Option ℕ
period_of sum = if sum == 0 then None else Some (sum / microsecond)

-- the start of a reply to these edges that is loaded at a tick
abbrev pub starts_from : List Edge → ℕ → ℕ
starts_from edges now = max (now + 1) (answers_from edges)

-- the end of a reply that starts at a tick, to a window in a mode
abbrev pub ends_from : Mode → ℕ → ℕ
ends_from mode start = start + reply_bits * reply_bit mode
