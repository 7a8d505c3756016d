use Rattle.esc_laws.proofs.refused.Replies.{some_are_replied}
use Rattle.esc_laws.proofs.shown.some_are_replied.Goals as goal

pub returns : goal.returns
returns c = some_are_replied
