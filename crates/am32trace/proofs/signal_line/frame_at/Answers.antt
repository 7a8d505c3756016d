use Rattle.am32trace.proofs.Begun.{frame_begun, spoiled_begun}
use Rattle.am32trace.specs.Frames.{rest_of}
use Rattle.am32trace.proofs.signal_line.frame_at.Goals as goal

pub returns-in-Some-clause-sent : goal.returns-in-Some-clause-sent
returns-in-Some-clause-sent c =
    rw c.in-Some.is (spoiled_begun c.args.mode c.args.start.0 c.args.payload.frame c.in-Some.spoil (rest_of c.spoiled.result) c.spoiled.ensures.spoilt)

pub returns-in-None-clause-sent : goal.returns-in-None-clause-sent
returns-in-None-clause-sent c =
    rw c.in-None.is (frame_begun c.args.mode c.args.start.0 c.args.payload.frame (rest_of c.whole.result) c.whole.ensures.sent)
