use Rattle.std.proofs.Common.{◌≡◌}
use Rattle.base_tests.proofs.control.acted.Given as goal

abbrev pub invariant-loop : goal.invariant-loop
invariant-loop l = l.control.number ≡ l.initial.control.number
