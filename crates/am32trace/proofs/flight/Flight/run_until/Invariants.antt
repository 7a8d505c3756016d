use Rattle.std.proofs.Common.{◌-◌}
use Rattle.am32trace.proofs.Running.{Ran}
use Rattle.am32trace.proofs.flight.Flight.run_until.Given as goal

abbrev pub invariant-loop-planned : goal.invariant-loop-planned
invariant-loop-planned g l = Ran l.fn.self (g.K.Sink.given l.fn.out) l.self (g.K.Sink.given l.out) l.fn.t.0

abbrev pub decreases-loop-planned : goal.decreases-loop-planned
decreases-loop-planned g l = 16777216 - l.self.writer.place.line
