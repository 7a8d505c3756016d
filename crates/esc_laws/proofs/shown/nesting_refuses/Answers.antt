use Rattle.esc_laws.proofs.refused.Nesting.{nesting_refuses}
use Rattle.esc_laws.proofs.shown.nesting_refuses.Goals as goal

pub returns : goal.returns
returns c = nesting_refuses
