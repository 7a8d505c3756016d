use Rattle.esc_laws.proofs.refused.Crossings.{crossings_refuse}
use Rattle.esc_laws.proofs.shown.crossings_refuse.Goals as goal

pub returns : goal.returns
returns c = crossings_refuse
