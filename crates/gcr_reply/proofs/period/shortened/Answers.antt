use Rattle.gcr_reply.proofs.Periods.{joined, more_halved}
use Rattle.gcr_reply.proofs.period.shortened.Goals as goal

pub loop-quotient-preserved : goal.loop-quotient-preserved
loop-quotient-preserved c =
    more_halved c.loop-quotient.exponent c.loop-quotient.quotient c.args.period c.requires c.loop-quotient-test.true c.loop-quotient.invariant

pub returns-clause-small : goal.returns-clause-small
returns-clause-small c = (joined c.loop-quotient.exponent c.loop-quotient.quotient c.args.period c.loop-quotient-test.false c.loop-quotient.invariant).0

pub returns-clause-short : goal.returns-clause-short
returns-clause-short c = (joined c.loop-quotient.exponent c.loop-quotient.quotient c.args.period c.loop-quotient-test.false c.loop-quotient.invariant).1
