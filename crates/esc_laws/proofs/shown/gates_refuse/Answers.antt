use Rattle.esc_laws.proofs.refused.Drive.{gates_refuse}
use Rattle.esc_laws.proofs.shown.gates_refuse.Goals as goal

pub returns : goal.returns
returns c = gates_refuse
