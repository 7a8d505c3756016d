use Rattle.std.proofs.Common.{◌≤◌, ◌+◌, ◌*◌}
use Rattle.edge_capture.specs.Edges.{last_at}
use Rattle.base_tests.proofs.windows.square.Given as goal

abbrev pub invariant-loop-i : goal.invariant-loop-i
invariant-loop-i l = last_at l.capture.edges ≤ 10000 + 40 * l.i
