use Rattle.gcr_reply.proofs.Lines.{IsSent}
use Rattle.gcr_reply.proofs.line.line_bits.Given as goal

abbrev pub invariant-loop-sent : goal.invariant-loop-sent
invariant-loop-sent l = IsSent l.gcr l.sent l.line
