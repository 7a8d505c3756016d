use Rattle.esc_laws.proofs.refused.Windows.{windows_refuse}
use Rattle.esc_laws.proofs.shown.windows_refuse.Goals as goal

pub returns : goal.returns
returns c = windows_refuse
