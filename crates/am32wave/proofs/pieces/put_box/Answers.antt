use Rattle.am32wave.specs.Pieces.{shape, label}
use Rattle.am32wave.proofs.Parts.{on_err, first_front, second_ok, second_front}
use Rattle.am32wave.proofs.pieces.put_box.Goals as goal

pub returns-in_err-put_line-clause-front : goal.returns-in_err-put_line-clause-front
returns-in_err-put_line-clause-front g c =
    on_err c.from_residual.result (first_front (g.K.Sink.given c.args.out.now) (g.K.Sink.given c.put_line.new.out) (shape 98 c.args.x c.args.y)
    c.shape_text.result.bytes (label c.args.x c.args.y c.args.value) c.shape_text.ensures c.in_err-put_line.ensures.front)

pub returns-clause-ok : goal.returns-clause-ok
returns-clause-ok g c =
    second_ok c.put_line-2.result (g.K.Sink.given c.args.out.now) (g.K.Sink.given c.put_line.new.out) (g.K.Sink.given c.put_line-2.new.out)
    (shape 98 c.args.x c.args.y) c.shape_text.result.bytes (label c.args.x c.args.y c.args.value) c.label_text.result.bytes c.shape_text.ensures
    c.label_text.ensures c.in_ok-put_line.ensures.ok c.put_line-2.ensures.ok

pub returns-clause-front : goal.returns-clause-front
returns-clause-front g c =
    second_front c.put_line-2.result (g.K.Sink.given c.args.out.now) (g.K.Sink.given c.put_line.new.out) (g.K.Sink.given c.put_line-2.new.out)
    (shape 98 c.args.x c.args.y) c.shape_text.result.bytes (label c.args.x c.args.y c.args.value) c.label_text.result.bytes c.shape_text.ensures
    c.label_text.ensures c.in_ok-put_line.ensures.ok c.put_line-2.ensures.front
