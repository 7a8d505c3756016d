use Rattle.am32wave.proofs.Parts.{broken_at, on_err}
use Rattle.am32wave.proofs.pieces.put_pieces.Goals as goal

pub returns-in_err-put_piece-clause-front : goal.returns-in_err-put_piece-clause-front
returns-in_err-put_piece-clause-front g c =
    on_err c.from_residual.result (broken_at (g.K.Sink.given c.args.out.now) (g.K.Sink.given c.loop-piece.out) (g.K.Sink.given c.put_piece.new.out)
    c.args.pieces.now c.loop-piece.piece-index _ c.loop-piece-test.true c.loop-piece.invariant.given c.in_err-put_piece.ensures.front)
