use Rattle.esc_laws.proofs.refused.Asked.{entries_refuse}
use Rattle.esc_laws.proofs.shown.entries_refuse.Goals as goal

pub returns : goal.returns
returns c = entries_refuse
