use Rattle.std.proofs.Common.{◌≤◌}
use Rattle.am32trace.proofs.Reading.{Going}
use Rattle.am32trace.proofs.run.trace_main.Given as goal

abbrev pub invariant-loop-line : goal.invariant-loop-line
invariant-loop-line g l =
    Going (g.G.Grammar.says l.fn.grammar) l.lines (g.S.Source.left l.fn.src) (g.S.Source.left l.src) l.flight (g.K.Sink.given l.fn.out) (g.K.Sink.given l.out)
    × (g.S.Source.faults l.fn.src ≤ g.S.Source.faults l.src)
