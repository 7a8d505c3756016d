use Rattle.esc_laws.proofs.refused.Drive.{turns_refuse}
use Rattle.esc_laws.proofs.shown.turns_refuse.Goals as goal

pub returns : goal.returns
returns c = turns_refuse
