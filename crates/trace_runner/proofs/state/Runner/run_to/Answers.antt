use Rattle.std.proofs.Common.{arith}
use Rattle.esc_base.specs.Flash.{Told}
use Rattle.trace_runner.specs.Run.{Runs}
use Rattle.trace_runner.proofs.Goes.{goes_none, runs_from}
use Rattle.trace_runner.proofs.state.Runner.run_to.Goals as goal

pub returns-then-self-clause-run : goal.returns-then-self-clause-run
returns-then-self-clause-run g c =
    let flash : Told = g.D.FlashDev.told c.args.dev.now in
    record {
      goes = λ o. goes_none g.K.Sink.given g.K.Sink.took (Runs c.args.self.now o flash) (Runs c.approach.new.self o flash) _
          (λ trace steps st. c.approach.ensures.runs o flash trace steps st);
      breaks = tt;
      failed = tt;
      no_fewer = omega arith;
    }

pub returns-clause-run : goal.returns-clause-run
returns-clause-run g c =
    let flash : Told = g.D.FlashDev.told c.args.dev.now in
    runs_from g.K.Sink.given g.K.Sink.took g.K.Sink.broke g.K.Sink.faults c.args.self.now _ c.run.new.self flash _ _ _ _
    (λ o trace steps st. c.approach.ensures.runs o flash trace steps st) c.approach.ensures.nest c.approach.ensures.cost c.run.ensures.run
