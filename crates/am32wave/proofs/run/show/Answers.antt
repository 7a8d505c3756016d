use Rattle.std.proofs.Common.{◌∙◌, ap, arith}
use Rattle.am32wave.specs.Pieces.{text}
use Rattle.am32wave.proofs.Parts.{on_err}
use Rattle.am32wave.proofs.Shows.{started, more, done, broken_head, broken_part, broken_end}
use Rattle.am32wave.proofs.run.show.Goals as goal

pub returns-in_err-put_pieces-clause-err : goal.returns-in_err-put_pieces-clause-err
returns-in_err-put_pieces-clause-err g c =
    on_err c.from_residual.result (broken_head c.args.form c.new-report.result (g.S.Source.left c.args.src.now) (g.K.Sink.given c.args.out.now)
    (g.K.Sink.given c.put_pieces.new.out) (text c.as_slice.result.now) c.new-report.ensures.form (ap text c.as_slice.ensures.value ∙ c.head.ensures.text)
    c.in_err-put_pieces.ensures.front)

pub loop-note-init : goal.loop-note-init
loop-note-init g c = record {
  so_far = started c.args.form c.new-journal.result c.new-report.result (g.S.Source.left c.args.src.now) (g.K.Sink.given c.args.out.now)
      (g.K.Sink.given c.put_pieces.new.out) (text c.as_slice.result.now) c.new-journal.ensures.unread c.new-journal.ensures.line
      c.new-journal.ensures.time c.new-report.ensures.form c.new-report.ensures.first (ap text c.as_slice.ensures.value ∙ c.head.ensures.text)
      c.in_ok-put_pieces.ensures.ok;
  src_faults = omega arith;
  out_faults = let e = c.put_pieces.ensures.no_fewer in omega arith;
}

pub loop-note-preserved : goal.loop-note-preserved
loop-note-preserved g c =
    let inv = c.loop-note.invariant in
    record {
      so_far = more c.args.form c.loop-note.journal c.next.new.self c.loop-note.report c.add.new.self (g.S.Source.left c.args.src.now)
          (g.S.Source.left c.loop-note.src) (g.S.Source.left c.next.new.src) (g.K.Sink.given c.args.out.now) (g.K.Sink.given c.loop-note.out)
          (g.K.Sink.given c.put_pieces-in-Note.new.out) c.in-Note.note (text c.as_slice-in-Note.result.now) inv.so_far c.in-Note.ensures.says
          c.add.ensures.form c.add.ensures.goes_on (λ notes is. ap text c.as_slice-in-Note.ensures.value ∙ c.add.ensures.text notes is)
          c.in_ok-put_pieces-in-Note.ensures.ok;
      src_faults = let e = c.next.ensures.no_fewer in let f = inv.src_faults in omega arith;
      out_faults = let e = c.put_pieces-in-Note.ensures.no_fewer in let f = inv.out_faults in omega arith;
    }

pub returns-in_err-put_pieces-in-Note-clause-err : goal.returns-in_err-put_pieces-in-Note-clause-err
returns-in_err-put_pieces-in-Note-clause-err g c =
    on_err c.from_residual-in_err-put_pieces-in-Note.result (broken_part c.args.form c.loop-note.journal c.next.new.self c.loop-note.report
    (g.S.Source.left c.args.src.now) (g.S.Source.left c.loop-note.src) (g.S.Source.left c.next.new.src) (g.K.Sink.given c.args.out.now)
    (g.K.Sink.given c.loop-note.out) (g.K.Sink.given c.put_pieces-in-Note.new.out) c.in-Note.note (text c.as_slice-in-Note.result.now)
    c.loop-note.invariant.so_far c.in-Note.ensures.says (λ notes is. ap text c.as_slice-in-Note.ensures.value ∙ c.add.ensures.text notes is)
    c.in_err-put_pieces-in-Note.ensures.front)

pub returns-in_err-put_pieces-in-End-clause-err : goal.returns-in_err-put_pieces-in-End-clause-err
returns-in_err-put_pieces-in-End-clause-err g c =
    on_err c.from_residual-in_err-put_pieces-in-End.result (broken_end c.args.form c.loop-note.journal c.loop-note.report
    (g.S.Source.left c.args.src.now) (g.S.Source.left c.loop-note.src) (g.K.Sink.given c.args.out.now)
    (g.K.Sink.given c.loop-note.out) (g.K.Sink.given c.put_pieces-in-End.new.out) (text c.as_slice-in-End.result.now)
    c.loop-note.invariant.so_far (λ notes is. ap text c.as_slice-in-End.ensures.value ∙ c.end.ensures.text notes is)
    c.in_err-put_pieces-in-End.ensures.front)

pub returns-in-End-clause-ok : goal.returns-in-End-clause-ok
returns-in-End-clause-ok g c =
    done c.args.form c.loop-note.journal c.loop-note.report (g.S.Source.left c.args.src.now) (g.S.Source.left c.loop-note.src)
    (g.K.Sink.given c.args.out.now) (g.K.Sink.given c.loop-note.out) (g.K.Sink.given c.put_pieces-in-End.new.out) (text c.as_slice-in-End.result.now)
    c.loop-note.invariant.so_far c.in-End.ensures.says.0 (λ notes is. ap text c.as_slice-in-End.ensures.value ∙ c.end.ensures.text notes is)
    c.in_ok-put_pieces-in-End.ensures.ok
