use Rattle.std.proofs.Common.{◌≤◌, ◌-◌}
use Rattle.trace_text.specs.Ahead.{place}
use Rattle.am32sim.proofs.Runs.{SoFar}
use Rattle.am32sim.proofs.run.run.Given as goal

abbrev pub invariant-loop-event : goal.invariant-loop-event
invariant-loop-event g l = record {
  so_far : SoFar l.fn.cfg (record { loaded = l.fn.loaded; flash = g.F.FlashDev.told l.fn.flash })
      (g.F.FlashDev.told l.flash) l.runner l.lines (g.S.Source.left l.fn.src) (g.S.Source.left l.src) (g.K.Sink.given l.fn.out)
      (g.K.Sink.given l.out);
  few : (place l.lines).line ≤ 16777216;
  src_faults : g.S.Source.faults l.fn.src ≤ g.S.Source.faults l.src;
  out_faults : g.K.Sink.faults l.fn.out ≤ g.K.Sink.faults l.out;
}

abbrev pub decreases-loop-event : goal.decreases-loop-event
decreases-loop-event g l = 16777217 - (place l.lines).line
