use Rattle.std.proofs.Common.{◌≤◌}
use Rattle.am32trace.proofs.Reading.{Rest}
use Rattle.am32trace.proofs.run.read_rest.Given as goal

abbrev pub invariant-loop-line : goal.invariant-loop-line
invariant-loop-line g l =
    Rest (g.G.Grammar.says l.fn.grammar) l.fn.lines (g.S.Source.left l.fn.src) l.lines (g.S.Source.left l.src)
    × (g.S.Source.faults l.fn.src ≤ g.S.Source.faults l.src)
