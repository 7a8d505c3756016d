use Rattle.std.proofs.Common.{[]}
use Rattle.trace_runner.specs.Run.{Runs, StandsFor}
use Rattle.trace_runner.proofs.Goes.{goes_from, goes_event, breaks_from}
use Rattle.trace_runner.proofs.Steps.{legal_at}
use Rattle.esc_base.proofs.OutsideLaws.{on_err}
use Rattle.trace_runner.proofs.state.Runner.feed.Goals as goal

pub returns-in_err-run_to-clause-breaks : goal.returns-in_err-run_to-clause-breaks
returns-in_err-run_to-clause-breaks g c =
    on_err c.from_residual.result (λ o.
    breaks_from g.K.Sink.given g.K.Sink.took g.K.Sink.broke o.loaded (StandsFor c.args.self.now o _) (Runs c.args.self.now o _) _ _ _
    (λ trace steps st. st.runs) (c.in_err-run_to.ensures.run.breaks o))

pub returns-clause-goes : goal.returns-clause-goes
returns-clause-goes g c = λ o.
    goes_event g.K.Sink.given g.K.Sink.took (StandsFor c.args.self.now o _) (Runs c.run_to.new.self o _) (StandsFor c.apply.new.self o _) c.args.e _ _
    (λ trace steps st. record {
      runs = c.apply.ensures.runs o (g.D.FlashDev.told c.run_to.new.dev) trace steps st;
      reached = c.apply.ensures.reached;
    })
    (goes_from g.K.Sink.given g.K.Sink.took (StandsFor c.args.self.now o _) (Runs c.args.self.now o _) (Runs c.run_to.new.self o _) [] _ _
    (λ trace steps st. st.runs) (c.in_ok-run_to.ensures.run.goes o))

pub returns-clause-legal : goal.returns-clause-legal
returns-clause-legal g c = λ o trace steps st. legal_at c.apply.new.self o _ trace steps st
