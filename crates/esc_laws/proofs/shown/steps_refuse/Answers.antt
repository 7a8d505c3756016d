use Rattle.esc_laws.proofs.refused.Steps.{steps_refuse}
use Rattle.esc_laws.proofs.shown.steps_refuse.Goals as goal

pub returns : goal.returns
returns c = steps_refuse
