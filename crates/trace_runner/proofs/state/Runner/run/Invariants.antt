use Rattle.std.proofs.Common.{◌-◌, ◌≡◌, ◌≤◌, []}
use Rattle.trace_runner.specs.Run.{Outset, Runs, GoesOn, nest_of, cost_of}
use Rattle.trace_runner.proofs.state.Runner.run.Given as goal

abbrev pub invariant-loop-self : goal.invariant-loop-self
invariant-loop-self g l = record {
  goes : (o : Outset)
      → GoesOn g.K.Sink.given g.K.Sink.took (Runs l.fn.self o (g.D.FlashDev.told l.fn.dev))
      (Runs l.self o (g.D.FlashDev.told l.dev)) [] l.fn.out l.out;
  limit : l.self.limit ≡ l.fn.self.limit;
  nest : nest_of l.self ≡ nest_of l.fn.self;
  cost : cost_of l.self ≡ cost_of l.fn.self;
  no_fewer : g.K.Sink.faults l.fn.out ≤ g.K.Sink.faults l.out;
}

abbrev pub decreases-loop-self : goal.decreases-loop-self
decreases-loop-self g l = l.self.limit.0 - l.self.next.0
