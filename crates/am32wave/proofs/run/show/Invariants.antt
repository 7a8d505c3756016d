use Rattle.std.proofs.Common.{◌≤◌, ◌-◌}
use Rattle.am32wave.proofs.Shows.{SoFar}
use Rattle.am32wave.proofs.run.show.Given as goal

abbrev pub invariant-loop-note : goal.invariant-loop-note
invariant-loop-note g l = record {
  so_far : SoFar l.fn.form l.journal l.report (g.S.Source.left l.fn.src) (g.S.Source.left l.src) (g.K.Sink.given l.fn.out) (g.K.Sink.given l.out);
  src_faults : g.S.Source.faults l.fn.src ≤ g.S.Source.faults l.src;
  out_faults : g.K.Sink.faults l.fn.out ≤ g.K.Sink.faults l.out;
}

abbrev pub decreases-loop-note : goal.decreases-loop-note
decreases-loop-note g l = 4294967296 - l.journal.line
