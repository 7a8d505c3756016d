use Rattle.std.proofs.Common.{refl, append_assoc, append-nil}
use Rattle.am32wave.proofs.tally.Tally.commutations.Goals as goal

pub returns-clause-text : goal.returns-clause-text
returns-clause-text c = simp (append_assoc, append-nil) refl
