use Rattle.std.proofs.Common.{◌≡◌, ◌+◌}
use Rattle.base_tests.proofs.control.demand_ramps_up.Given as goal

abbrev pub invariant-loop-n : goal.invariant-loop-n
invariant-loop-n g l = l.control.number + 1 ≡ l.n
