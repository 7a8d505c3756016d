use Rattle.dshot_frame.proofs.Words.{IsSoFar}
use Rattle.dshot_frame.proofs.judge.read_word.Given as goal

abbrev pub invariant-loop-i : goal.invariant-loop-i
invariant-loop-i l = IsSoFar l.bit l.burst l.i l.word
