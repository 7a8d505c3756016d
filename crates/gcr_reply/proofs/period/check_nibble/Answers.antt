use Rattle.gcr_reply.proofs.Periods.{check_is}
use Rattle.gcr_reply.proofs.period.check_nibble.Goals as goal

pub returns : goal.returns
returns c = check_is c.args.twelve
