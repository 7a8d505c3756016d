use Rattle.std.proofs.Common.{◌∙◌, [], refl, arith, rules}
use Rattle.trace_runner.specs.declared.state.Runner.{Runner}
use Rattle.trace_runner.specs.Run.{Runs}
use Rattle.trace_runner.proofs.Goes.{goes_none, goes_further, breaks_later, breaks_as}
use Rattle.esc_base.proofs.OutsideLaws.{on_err}
use Rattle.trace_runner.proofs.state.Runner.run.Goals as goal

pub loop-self-init : goal.loop-self-init
loop-self-init g c =
    let r : Runner = c.args.self.now in
    record {
      goes = λ o. goes_none g.K.Sink.given g.K.Sink.took (Runs r o _) _ _ (λ trace steps st. st);
      limit = refl;
      nest = refl;
      cost = refl;
      no_fewer = omega arith;
    }

pub loop-self-preserved : goal.loop-self-preserved
loop-self-preserved g c = record {
  goes = λ o. goes_further g.K.Sink.given g.K.Sink.took _ _ _ [] [] _ _ _ (c.loop-self.invariant.goes o) (c.in_ok-go_on.ensures.run.goes o);
  limit = c.go_on.ensures.kept.limit ∙ c.loop-self.invariant.limit;
  nest = c.go_on.ensures.kept.nest ∙ c.loop-self.invariant.nest;
  cost = c.go_on.ensures.kept.cost ∙ c.loop-self.invariant.cost;
  no_fewer = let e = c.go_on.ensures.run.no_fewer in omega arith;
}

pub returns-in_err-go_on-clause-run : goal.returns-in_err-go_on-clause-run
returns-in_err-go_on-clause-run g c = record {
  goes = search rules;
  breaks = on_err c.from_residual.result (λ o.
      breaks_as g.K.Sink.given g.K.Sink.took g.K.Sink.broke o.loaded
      (Runs c.args.self.now o _) o _ _ _ _ _ _ _ _ c.loop-self.invariant.nest c.loop-self.invariant.cost
      (breaks_later g.K.Sink.given g.K.Sink.took g.K.Sink.broke o.loaded _ _ _ _ _ _ (c.loop-self.invariant.goes o) (c.in_err-go_on.ensures.run.breaks o)));
  failed = search rules;
  no_fewer = let e = c.go_on.ensures.run.no_fewer in omega arith;
}

pub returns-clause-run : goal.returns-clause-run
returns-clause-run g c = record {
  goes = c.loop-self.invariant.goes;
  breaks = tt;
  failed = tt;
  no_fewer = c.loop-self.invariant.no_fewer;
}
