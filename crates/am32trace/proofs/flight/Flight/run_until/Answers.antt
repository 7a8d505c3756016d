use Rattle.am32trace.proofs.Running.{ran_none, ran_step, ran_end}
use Rattle.am32trace.proofs.flight.Flight.run_until.Goals as goal

pub loop-planned-init : goal.loop-planned-init
loop-planned-init g c = ran_none c.args.self.now (g.K.Sink.given c.args.out.now) c.args.t.0 c.requires.well

pub step-requires-clause-well : goal.step-requires-clause-well
step-requires-clause-well g c = c.loop-planned.invariant.goes_on.well

pub loop-planned-preserved : goal.loop-planned-preserved
loop-planned-preserved g c =
    ran_step c.args.self.now c.loop-planned.self c.step.new.self (g.K.Sink.given c.args.out.now) (g.K.Sink.given c.loop-planned.out)
    (g.K.Sink.given c.step.new.out) c.args.t.0 c.in-Some.planned c.loop-planned.invariant c.in_ok-step.ensures.ok c.in-Some.ensures.planned
    c.in-Some.ensures.early

pub returns-clause-goes_on : goal.returns-clause-goes_on
returns-clause-goes_on g c =
    ran_end c.args.self.now c.loop-planned.self (g.K.Sink.given c.args.out.now) (g.K.Sink.given c.loop-planned.out) c.args.t.0 c.loop-planned.invariant
    c.in_default.ensures.reached
