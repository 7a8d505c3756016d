use Rattle.std.proofs.Common.{Bool, ℕ, List, subst, arith}
use Rattle.am32trace.specs.Flown.{Followed}
use Rattle.am32trace.proofs.Endings.{where_done}
use Rattle.am32trace.proofs.Following.{none_yet}
use Rattle.am32trace.proofs.Reading.{going_first, going_on, going_ends}
use Rattle.am32trace.proofs.run.trace_main.Goals as goal

pub loop-line-init : goal.loop-line-init
loop-line-init g c =
    let source = g.S.Source.left c.args.src.now in
    let first = g.K.Sink.given c.args.out.now in (
      going_first (g.G.Grammar.says c.args.grammar.now) c.new-lines.result source c.new-flight.result first (c.new-lines.ensures source)
          (none_yet c.new-flight.result first (c.new-flight.ensures.keeps first) c.new-flight.ensures.well c.new-flight.ensures.sender),
      omega arith,
    )

pub loop-line-preserved : goal.loop-line-preserved
loop-line-preserved g c =
    let says = g.G.Grammar.says c.args.grammar.now in
    let now = g.K.Sink.given c.loop-line.out in
    let after = g.K.Sink.given c.follow.new.out in (
      going_on says c.loop-line.lines c.next.new.self (g.S.Source.left c.args.src.now) (g.S.Source.left c.loop-line.src) (g.S.Source.left c.next.new.src)
          c.loop-line.flight c.follow.new.flight (g.K.Sink.given c.args.out.now) now after c.next.new.self.line.items c.in-Ok.asked c.loop-line.invariant.0
          (c.in-Ok-true.ensures.some c.in-Ok-true.field-0-test) (subst (λ (line : List ℕ). says line c.in-Ok.asked) c.line.ensures c.in-Ok.ensures.said)
          (subst (λ (b : Bool). Followed b c.in-Ok.asked c.loop-line.flight now c.follow.new.flight after) c.in-Ok-false-follow.field-0-test
          c.in-Ok-false-follow.ensures),
      omega (arith, c.loop-line.invariant.1, c.in-Ok-true.ensures.no_fewer),
    )

pub returns-in-Ok-true-follow-clause-done : goal.returns-in-Ok-true-follow-clause-done
returns-in-Ok-true-follow-clause-done g c =
    let says = g.G.Grammar.says c.args.grammar.now in
    let now = g.K.Sink.given c.loop-line.out in
    let after = g.K.Sink.given c.follow.new.out in
    where_done c.read_rest.result _ _
    (λ rest. going_ends says c.loop-line.lines c.next.new.self c.read_rest.new.lines (g.S.Source.left c.args.src.now) (g.S.Source.left c.loop-line.src)
    (g.S.Source.left c.next.new.src) (g.S.Source.left c.read_rest.new.src) c.loop-line.flight (g.K.Sink.given c.args.out.now) now after
    c.next.new.self.line.items c.in-Ok.asked c.loop-line.invariant.0 (c.in-Ok-true.ensures.some c.in-Ok-true.field-0-test)
    (subst (λ (line : List ℕ). says line c.in-Ok.asked) c.line.ensures c.in-Ok.ensures.said)
    (subst (λ (b : Bool). Followed b c.in-Ok.asked c.loop-line.flight now c.follow.new.flight after) c.in-Ok-true-follow.field-0-test
    c.in-Ok-true-follow.ensures)
    rest)
    c.read_rest.ensures.done
