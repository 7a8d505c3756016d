use Rattle.esc_laws.proofs.allowed.Windows.{some_windows_open}
use Rattle.esc_laws.proofs.shown.some_windows_open.Goals as goal

pub returns : goal.returns
returns c = some_windows_open
