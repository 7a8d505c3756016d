use Rattle.esc_laws.proofs.refused.Crossings.{searches_refuse}
use Rattle.esc_laws.proofs.shown.searches_refuse.Goals as goal

pub returns : goal.returns
returns c = searches_refuse
