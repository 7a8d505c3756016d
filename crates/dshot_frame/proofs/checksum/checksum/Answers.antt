use Rattle.dshot_frame.proofs.Readings.{sum-number, complement-number}
use Rattle.dshot_frame.proofs.checksum.checksum.Goals as goal

pub returns-then-inverted-clause-value : goal.returns-then-inverted-clause-value
returns-then-inverted-clause-value c = λ bits n e. rw (c.if-inverted.true, e) (complement-number bits n)

pub returns-else-inverted-clause-value : goal.returns-else-inverted-clause-value
returns-else-inverted-clause-value c = λ bits n e. rw (c.if-inverted.false, e) (sum-number bits n)
