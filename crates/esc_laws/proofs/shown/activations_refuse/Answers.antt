use Rattle.esc_laws.proofs.refused.Crossings.{activations_refuse}
use Rattle.esc_laws.proofs.shown.activations_refuse.Goals as goal

pub returns : goal.returns
returns c = activations_refuse
