use Rattle.std.proofs.Common.{sym, ◌∙◌, arith}
use Rattle.esc_base.specs.Flash.{Told}
use Rattle.trace_runner.specs.Run.{Runs}
use Rattle.trace_runner.proofs.Goes.{goes_none, runs_from}
use Rattle.trace_runner.proofs.state.Runner.go_on.Goals as goal

pub returns-then-self-clause-run : goal.returns-then-self-clause-run
returns-then-self-clause-run g c =
    let flash : Told = g.D.FlashDev.told c.args.dev.now in
    record {
      goes = λ o. goes_none g.K.Sink.given g.K.Sink.took (Runs c.args.self.now o flash) (Runs c.wait.new.self o flash) _
          (λ trace steps st. c.wait.ensures.runs o flash trace steps st);
      breaks = tt;
      failed = tt;
      no_fewer = omega arith;
    }

pub returns-then-idle_with-clause-run : goal.returns-then-idle_with-clause-run
returns-then-idle_with-clause-run g c =
    let flash : Told = g.D.FlashDev.told c.args.dev.now in
    record {
      goes = λ o. goes_none g.K.Sink.given g.K.Sink.took (Runs c.args.self.now o flash) (Runs c.jump.new.self o flash) _ (λ trace steps st.
          let p = c.pass.ensures.runs o flash trace steps st in
          c.jump.ensures.runs o flash trace steps (record { logged = p.logged; bound = p.bound; spaced = p.spaced; in_range = p.in_range; flash = p.flash }));
      breaks = tt;
      failed = tt;
      no_fewer = omega arith;
    }

pub returns-else-idle_with-clause-run : goal.returns-else-idle_with-clause-run
returns-else-idle_with-clause-run g c =
    let flash : Told = g.D.FlashDev.told c.args.dev.now in
    runs_from g.K.Sink.given g.K.Sink.took g.K.Sink.broke g.K.Sink.faults c.args.self.now _ c.step.new.self flash _ _ _ _ (λ o trace steps st.
    let p = c.pass.ensures.runs o flash trace steps st in
    record { logged = p.logged; bound = p.bound; spaced = p.spaced; in_range = p.in_range; flash = p.flash })
    c.pass.ensures.kept.nest c.pass.ensures.kept.cost c.step.ensures.run

pub jump-requires-clause-idle : goal.jump-requires-clause-idle
jump-requires-clause-idle g c = sym (c.idle_with.ensures c.pass.new.self.regs c.pass.new.self.held c.entry-entry.ensures.entry) ∙ c.if-idle_with.true

pub step-requires-clause-busy : goal.step-requires-clause-busy
step-requires-clause-busy g c = sym (c.idle_with.ensures c.pass.new.self.regs c.pass.new.self.held c.entry-entry.ensures.entry) ∙ c.if-idle_with.false
