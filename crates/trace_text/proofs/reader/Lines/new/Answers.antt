use Rattle.trace_text.proofs.Answering.{nothing_read}
use Rattle.std.proofs.Common.{refl}
use Rattle.trace_text.proofs.reader.Lines.new.Goals as goal

pub returns-clause-begins : goal.returns-clause-begins
returns-clause-begins c left = nothing_read _ left c.new.ensures refl
