use Rattle.std.proofs.Common.{None, Option, ℕ, List, subst, arith}
use Rattle.am32trace.specs.declared.action.Directive.{Directive}
use Rattle.am32trace.proofs.Reading.{rest_none, rest_one}
use Rattle.am32trace.proofs.run.read_rest.Goals as goal

pub loop-line-init : goal.loop-line-init
loop-line-init g c = (rest_none (g.G.Grammar.says c.args.grammar.now) c.args.lines.now (g.S.Source.left c.args.src.now), omega arith)

pub loop-line-preserved : goal.loop-line-preserved
loop-line-preserved g c =
    let says = g.G.Grammar.says c.args.grammar.now in (
      rest_one says c.args.lines.now c.loop-line.lines c.next.new.self (g.S.Source.left c.args.src.now) (g.S.Source.left c.loop-line.src)
          (g.S.Source.left c.next.new.src) c.next.new.self.line.items c.loop-line.invariant.0 (c.in-Ok-true.ensures.some c.in-Ok-true.field-0-test)
          (subst (λ (line : List ℕ). says line None) c.line.ensures
          (subst (λ (d : Option Directive). says c.line.result.now d) c.in-Ok-None.field-0-is c.in-Ok-None.ensures.said)),
      omega (arith, c.loop-line.invariant.1, c.in-Ok-true.ensures.no_fewer),
    )
