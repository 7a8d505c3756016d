use Rattle.gcr_reply.proofs.Lines.{all_sent, more_sent}
use Rattle.gcr_reply.proofs.line.line_bits.Goals as goal

pub loop-sent-preserved : goal.loop-sent-preserved
loop-sent-preserved c = more_sent c.args.gcr c.loop-sent.sent c.loop-sent.line c.loop-sent-test.true c.loop-sent.invariant

pub returns : goal.returns
returns c = all_sent c.args.gcr c.loop-sent.sent c.loop-sent.line c.loop-sent-test.false c.loop-sent.invariant
