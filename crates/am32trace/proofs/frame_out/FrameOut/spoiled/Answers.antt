use Rattle.std.proofs.Common.{refl, sym, arith}
use Rattle.edge_capture.specs.Modes.{numbers}
use Rattle.am32trace.proofs.Edges.{within_frame, begins_bit}
use Rattle.am32trace.proofs.frame_out.FrameOut.spoiled.Goals as goal

pub returns-clause-spoilt : goal.returns-clause-spoilt
returns-clause-spoilt c = λ frames. record {
  word = c.encode-word.result;
  of_frame = c.encode-word.ensures c.args.mode c.args.start.0 frames (sym (rw c.mode_numbers.ensures.table refl));
  but_for = refl;
}

pub returns-clause-begins : goal.returns-clause-begins
returns-clause-begins c =
    let some = c.args.spoil.some in
    begins_bit (numbers c.args.mode).bit (numbers c.args.mode).inverted _ c.args.start.0 _ 16 c.args.spoil.edges (omega arith) (omega arith)

pub returns-clause-within : goal.returns-clause-within
returns-clause-within c = within_frame c.args.mode c.args.spoil.wide c.args.start.0 _ c.args.spoil.edges
