use Rattle.trace_runner.specs.declared.state.Runner.{Runner}
use Rattle.trace_runner.proofs.Steps.{bound_until}
use Rattle.trace_runner.proofs.state.Runner.approach.Goals as goal

pub returns-then-self-2-clause-runs : goal.returns-then-self-2-clause-runs
returns-then-self-2-clause-runs c = λ o now trace steps st.
    let r : Runner = c.args.self.now in
    c.wait.ensures.runs o now trace steps (record {
      logged = st.logged;
      bound = bound_until r.cost r.limit.0 c.args.limit.0 steps c.requires.later st.bound;
      spaced = st.spaced;
      in_range = st.in_range;
      flash = st.flash;
    })

pub returns-else-self-clause-runs : goal.returns-else-self-clause-runs
returns-else-self-clause-runs c = λ o now trace steps st.
    let r : Runner = c.args.self.now in
    record {
      logged = st.logged;
      bound = bound_until r.cost r.limit.0 c.args.limit.0 steps c.requires.later st.bound;
      spaced = st.spaced;
      in_range = st.in_range;
      flash = st.flash;
    }
