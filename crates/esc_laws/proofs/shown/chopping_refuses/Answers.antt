use Rattle.esc_laws.proofs.refused.Chops.{chopping_refuses}
use Rattle.esc_laws.proofs.shown.chopping_refuses.Goals as goal

pub returns : goal.returns
returns c = chopping_refuses
