use Rattle.std.proofs.Common.{◌∙◌, ap, arith}
use Rattle.am32wave.specs.Drawn.{head}
use Rattle.am32wave.specs.Pieces.{text}
use Rattle.am32wave.proofs.Merging.{says_some, says_none}
use Rattle.am32wave.proofs.Parts.{on_err}
use Rattle.am32wave.proofs.TracedShows.{begins, more, done, broken_head, broken_part, broken_end}
use Rattle.am32wave.proofs.run.show_traced.Goals as goal

pub returns-in_err-put_pieces-clause-err : goal.returns-in_err-put_pieces-clause-err
returns-in_err-put_pieces-clause-err g c =
    on_err c.from_residual.result (broken_head c.args.plan c.new-merge.result (g.S.Source.left c.args.src.now) (g.T.Source.left c.args.trace.now)
    (g.K.Sink.given c.args.out.now) (g.K.Sink.given c.put_pieces.new.out) (text c.as_slice.result.now)
    (c.new-merge.ensures (g.S.Source.left c.args.src.now) (g.T.Source.left c.args.trace.now)) (ap text c.as_slice.ensures.value ∙ c.head.ensures.head ∙ ap head c.new-drawing.ensures.plan)
    c.in_err-put_pieces.ensures.front)

pub loop-moment-init : goal.loop-moment-init
loop-moment-init g c = record {
  so_far = begins c.args.plan c.new-merge.result c.new-drawing.result (g.S.Source.left c.args.src.now) (g.T.Source.left c.args.trace.now)
      (g.K.Sink.given c.args.out.now) (g.K.Sink.given c.put_pieces.new.out) (text c.as_slice.result.now)
      (c.new-merge.ensures (g.S.Source.left c.args.src.now) (g.T.Source.left c.args.trace.now)) c.new-drawing.ensures
      (ap text c.as_slice.ensures.value ∙ c.head.ensures.head ∙ ap head c.new-drawing.ensures.plan) c.in_ok-put_pieces.ensures.ok;
  src_faults = omega arith;
  trace_faults = omega arith;
  out_faults = let e = c.in_ok-put_pieces.ensures.no_fewer in omega arith;
}

pub add-requires : goal.add-requires
add-requires g c =
    let inv = c.loop-moment.invariant in
    (says_some c.in-Ok-Some.field-0 c.in-Ok-Some.moment c.next.new.self (g.S.Source.left c.args.src.now) (g.S.Source.left c.next.new.src)
    (g.T.Source.left c.args.trace.now) (g.T.Source.left c.next.new.trace) inv.so_far.moments c.in-Ok-Some.field-0-is
    (c.in-Ok-Some.ensures.says (g.S.Source.left c.args.src.now) (g.T.Source.left c.args.trace.now) inv.so_far.moments inv.so_far.merged)).fits

pub loop-moment-preserved : goal.loop-moment-preserved
loop-moment-preserved g c =
    let inv = c.loop-moment.invariant in
    record {
      so_far = more c.args.plan c.loop-moment.merge c.next.new.self c.loop-moment.drawing c.add.new.self (g.S.Source.left c.args.src.now)
          (g.S.Source.left c.loop-moment.src) (g.S.Source.left c.next.new.src) (g.T.Source.left c.args.trace.now) (g.T.Source.left c.loop-moment.trace)
          (g.T.Source.left c.next.new.trace) (g.K.Sink.given c.args.out.now) (g.K.Sink.given c.loop-moment.out)
          (g.K.Sink.given c.put_pieces-in-Ok-Some.new.out) c.in-Ok-Some.moment (text c.as_slice-in-Ok-Some.result.now) inv.so_far
          (λ moments h.
          says_some c.in-Ok-Some.field-0 c.in-Ok-Some.moment c.next.new.self (g.S.Source.left c.args.src.now) (g.S.Source.left c.next.new.src)
          (g.T.Source.left c.args.trace.now) (g.T.Source.left c.next.new.trace) moments c.in-Ok-Some.field-0-is
          (c.in-Ok-Some.ensures.says (g.S.Source.left c.args.src.now) (g.T.Source.left c.args.trace.now) moments h))
          (λ moments is. ap text c.as_slice-in-Ok-Some.ensures.value ∙ c.add.ensures.part c.args.plan moments is) (c.add.ensures.goes_on c.args.plan)
          c.in_ok-put_pieces-in-Ok-Some.ensures.ok;
      src_faults = let e = c.next.ensures.no_fewer in let f = inv.src_faults in omega arith;
      trace_faults = let e = c.next.ensures.no_fewer_of_trace in let f = inv.trace_faults in omega arith;
      out_faults = let e = c.put_pieces-in-Ok-Some.ensures.no_fewer in let f = inv.out_faults in omega arith;
    }

pub returns-in_err-put_pieces-in-Ok-Some-clause-err : goal.returns-in_err-put_pieces-in-Ok-Some-clause-err
returns-in_err-put_pieces-in-Ok-Some-clause-err g c =
    on_err c.from_residual-in_err-put_pieces-in-Ok-Some.result (broken_part c.args.plan c.loop-moment.merge c.next.new.self c.loop-moment.drawing
    (g.S.Source.left c.args.src.now) (g.S.Source.left c.loop-moment.src) (g.S.Source.left c.next.new.src) (g.T.Source.left c.args.trace.now)
    (g.T.Source.left c.loop-moment.trace) (g.T.Source.left c.next.new.trace) (g.K.Sink.given c.args.out.now) (g.K.Sink.given c.loop-moment.out)
    (g.K.Sink.given c.put_pieces-in-Ok-Some.new.out) c.in-Ok-Some.moment (text c.as_slice-in-Ok-Some.result.now) c.loop-moment.invariant.so_far
    (λ moments h.
    says_some c.in-Ok-Some.field-0 c.in-Ok-Some.moment c.next.new.self (g.S.Source.left c.args.src.now) (g.S.Source.left c.next.new.src)
    (g.T.Source.left c.args.trace.now) (g.T.Source.left c.next.new.trace) moments c.in-Ok-Some.field-0-is
    (c.in-Ok-Some.ensures.says (g.S.Source.left c.args.src.now) (g.T.Source.left c.args.trace.now) moments h))
    (λ moments is. ap text c.as_slice-in-Ok-Some.ensures.value ∙ c.add.ensures.part c.args.plan moments is) c.in_err-put_pieces-in-Ok-Some.ensures.front)

pub returns-in_err-put_pieces-in-Ok-None-clause-err : goal.returns-in_err-put_pieces-in-Ok-None-clause-err
returns-in_err-put_pieces-in-Ok-None-clause-err g c =
    on_err c.from_residual-in_err-put_pieces-in-Ok-None.result (broken_end c.args.plan c.loop-moment.merge c.next.new.self c.loop-moment.drawing
    (g.S.Source.left c.args.src.now) (g.S.Source.left c.loop-moment.src) (g.S.Source.left c.next.new.src) (g.T.Source.left c.args.trace.now)
    (g.T.Source.left c.loop-moment.trace) (g.T.Source.left c.next.new.trace) (g.K.Sink.given c.args.out.now)
    (g.K.Sink.given c.loop-moment.out) (g.K.Sink.given c.put_pieces-in-Ok-None.new.out) (text c.as_slice-in-Ok-None.result.now)
    c.loop-moment.invariant.so_far
    (λ moments h.
    says_none c.in-Ok-None.field-0 c.next.new.self (g.S.Source.left c.args.src.now) (g.S.Source.left c.next.new.src)
    (g.T.Source.left c.args.trace.now) (g.T.Source.left c.next.new.trace) moments c.in-Ok-None.field-0-is
    (c.in-Ok-None.ensures.says (g.S.Source.left c.args.src.now) (g.T.Source.left c.args.trace.now) moments h))
    (λ moments is. ap text c.as_slice-in-Ok-None.ensures.value ∙ c.end.ensures.end c.args.plan moments is)
    c.in_err-put_pieces-in-Ok-None.ensures.front)

pub returns-in-Ok-None-clause-ok : goal.returns-in-Ok-None-clause-ok
returns-in-Ok-None-clause-ok g c =
    done c.args.plan c.loop-moment.merge c.next.new.self c.loop-moment.drawing
    (g.S.Source.left c.args.src.now) (g.S.Source.left c.loop-moment.src) (g.S.Source.left c.next.new.src) (g.T.Source.left c.args.trace.now)
    (g.T.Source.left c.loop-moment.trace) (g.T.Source.left c.next.new.trace) (g.K.Sink.given c.args.out.now)
    (g.K.Sink.given c.loop-moment.out) (g.K.Sink.given c.put_pieces-in-Ok-None.new.out) (text c.as_slice-in-Ok-None.result.now)
    c.loop-moment.invariant.so_far
    (λ moments h.
    says_none c.in-Ok-None.field-0 c.next.new.self (g.S.Source.left c.args.src.now) (g.S.Source.left c.next.new.src)
    (g.T.Source.left c.args.trace.now) (g.T.Source.left c.next.new.trace) moments c.in-Ok-None.field-0-is
    (c.in-Ok-None.ensures.says (g.S.Source.left c.args.src.now) (g.T.Source.left c.args.trace.now) moments h))
    (λ moments is. ap text c.as_slice-in-Ok-None.ensures.value ∙ c.end.ensures.end c.args.plan moments is)
    c.in_ok-put_pieces-in-Ok-None.ensures.ok
