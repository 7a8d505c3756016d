use Rattle.std.proofs.Common.{◌≡◌, ◌≤◌}
use Rattle.trace_text.specs.Ahead.{ahead}
use Rattle.am32trace.proofs.script_lines.ScriptLines.find.Given as goal

abbrev pub invariant-loop : goal.invariant-loop
invariant-loop g l =
    (ahead l.self.held (g.S.Source.left l.src) ≡ ahead l.fn.self.held (g.S.Source.left l.fn.src))
    × (l.self.has_ended ≡ l.fn.self.has_ended)
    × (g.S.Source.faults l.fn.src ≤ g.S.Source.faults l.src)
