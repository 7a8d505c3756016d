use Rattle.trace_text.proofs.OneText.{one_text}
use Rattle.trace_text.proofs.laws.one_journal.Goals as goal

pub returns : goal.returns
returns c = one_text
