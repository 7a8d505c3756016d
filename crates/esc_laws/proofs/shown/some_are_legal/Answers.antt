use Rattle.esc_laws.proofs.allowed.Journals.{some_are_legal}
use Rattle.esc_laws.proofs.shown.some_are_legal.Goals as goal

pub returns : goal.returns
returns c = some_are_legal
