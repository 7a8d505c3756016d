use Rattle.std.proofs.Common.{[]}
use Rattle.trace_runner.specs.Run.{Runs, StandsFor}
use Rattle.trace_runner.proofs.Goes.{goes_from, goes_to, breaks_from}
use Rattle.trace_runner.proofs.Steps.{legal_at}
use Rattle.trace_runner.proofs.Written.{on_ok, on_ok_two, on_err_map}
use Rattle.trace_runner.proofs.state.Runner.end.Goals as goal

pub returns-clause-goes : goal.returns-clause-goes
returns-clause-goes g c =
    on_ok_two c.run_to.result c.run_to.ensures.run.goes c.run_to.ensures.reached (λ r reached o.
    goes_to g.K.Sink.given g.K.Sink.took (StandsFor c.args.self.now o _) (Runs c.run_to.new.self o _) (StandsFor c.run_to.new.self o _) [] _ _
    (λ trace steps st. record { runs = st; reached = reached })
    (goes_from g.K.Sink.given g.K.Sink.took (StandsFor c.args.self.now o _) (Runs c.args.self.now o _) (Runs c.run_to.new.self o _) [] _ _
    (λ trace steps st. st.runs) (r o)))

pub returns-clause-breaks : goal.returns-clause-breaks
returns-clause-breaks g c =
    on_err_map c.run_to.result c.run_to.ensures.run.breaks (λ r o.
    breaks_from g.K.Sink.given g.K.Sink.took g.K.Sink.broke o.loaded (StandsFor c.args.self.now o _) (Runs c.args.self.now o _) _ _ _
    (λ trace steps st. st.runs) (r o))

pub returns-clause-legal : goal.returns-clause-legal
returns-clause-legal g c = on_ok c.run_to.result (λ o trace steps st. legal_at c.run_to.new.self o _ trace steps st)
