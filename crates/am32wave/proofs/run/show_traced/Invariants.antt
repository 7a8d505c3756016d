use Rattle.std.proofs.Common.{◌≤◌}
use Rattle.am32wave.specs.Merged.{to_come}
use Rattle.am32wave.proofs.TracedShows.{SoFar}
use Rattle.am32wave.proofs.run.show_traced.Given as goal

abbrev pub invariant-loop-moment : goal.invariant-loop-moment
invariant-loop-moment g l = record {
  so_far : SoFar l.fn.plan l.merge l.drawing (g.S.Source.left l.fn.src) (g.S.Source.left l.src) (g.T.Source.left l.fn.trace) (g.T.Source.left l.trace)
      (g.K.Sink.given l.fn.out) (g.K.Sink.given l.out);
  src_faults : g.S.Source.faults l.fn.src ≤ g.S.Source.faults l.src;
  trace_faults : g.T.Source.faults l.fn.trace ≤ g.T.Source.faults l.trace;
  out_faults : g.K.Sink.faults l.fn.out ≤ g.K.Sink.faults l.out;
}

abbrev pub decreases-loop-moment : goal.decreases-loop-moment
decreases-loop-moment g l = to_come l.merge
