use Rattle.gcr_reply.proofs.Periods.{IsHalved}
use Rattle.gcr_reply.proofs.period.shortened.Given as goal

abbrev pub invariant-loop-quotient : goal.invariant-loop-quotient
invariant-loop-quotient l = IsHalved l.exponent l.quotient l.period

abbrev pub decreases-loop-quotient : goal.decreases-loop-quotient
decreases-loop-quotient l = l.quotient
