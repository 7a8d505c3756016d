use Rattle.esc_laws.proofs.refused.Control.{control_refuses}
use Rattle.esc_laws.proofs.shown.control_refuses.Goals as goal

pub returns : goal.returns
returns c = control_refuses
