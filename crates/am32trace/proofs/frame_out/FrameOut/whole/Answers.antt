use Rattle.std.proofs.Common.{None, refl, sym, arith}
use Rattle.edge_capture.specs.Modes.{numbers}
use Rattle.am32trace.proofs.Edges.{within_frame, is_sent, begins_bit}
use Rattle.am32trace.proofs.frame_out.FrameOut.whole.Goals as goal

pub returns-clause-sent : goal.returns-clause-sent
returns-clause-sent c = λ frames.
    is_sent c.args.mode c.args.start.0 c.encode.result c.args.payload.frame
    (c.encode.ensures c.args.mode c.args.start.0 frames (sym (rw c.mode_numbers.ensures.table refl)))

pub returns-clause-begins : goal.returns-clause-begins
returns-clause-begins c =
    begins_bit (numbers c.args.mode).bit (numbers c.args.mode).inverted _ c.args.start.0 _ 16 32 (omega arith) (omega arith)

pub returns-clause-within : goal.returns-clause-within
returns-clause-within c = within_frame c.args.mode None c.args.start.0 _ 32
