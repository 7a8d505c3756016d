use Rattle.std.proofs.Common.{◌≢◌, ℕ, ◌<◌, slice_index}
use Rattle.gcr_reply.specs.Line.{table}
use Rattle.gcr_reply.proofs.groups.nibble_of.Given as goal

abbrev pub invariant-loop-nibble : goal.invariant-loop-nibble
invariant-loop-nibble l = (k : ℕ) → k < l.nibble → slice_index table k ≢ l.group
