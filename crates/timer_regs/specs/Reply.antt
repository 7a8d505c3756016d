-- The reply on the signal line: from when to when its bits stand. Times are ticks of 48 MHz.
use Rattle.std.specs.Prelude.{ℕ, ◌+◌, ◌*◌, ◌==◌, max, if◌then◌else◌, List, length}
use Rattle.esc_base.specs.declared.signal.Edge.{Edge}
use Rattle.esc_base.specs.Times.{reply_delay, reply_bits, reply_bit}
use Rattle.edge_capture.specs.Edges.{last_at}
use Rattle.edge_capture.specs.Window.{Window}

-- no reply starts before its delay has passed since the last edge that it answers; with no edge it needn't wait
abbrev pub answers_from : List Edge → ℕ
answers_from edges = if length edges == 0 then 0 else last_at edges + reply_delay

-- the start of a reply that is loaded at a tick, to the last window
abbrev pub reply_start : Window → ℕ → ℕ
reply_start w now = max (now + 1) (answers_from w.edges)

-- its end
abbrev pub end_of_reply : Window → ℕ → ℕ
end_of_reply w now = reply_start w now + reply_bits * reply_bit w.mode

-- a reply has ended so long after it was loaded, in any mode
abbrev pub longest : ℕ
longest = reply_delay + reply_bits * 128
