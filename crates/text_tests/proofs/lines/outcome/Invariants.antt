use Rattle.std.proofs.Common.{◌≤◌}
use Rattle.trace_text.specs.Ahead.{place}
use Rattle.text_tests.proofs.lines.outcome.Given as goal

abbrev pub invariant-loop : goal.invariant-loop
invariant-loop l = (place l.lines).line ≤ 16777216
