use Rattle.esc_laws.proofs.RestOpens.{cap_opens_window}
use Rattle.esc_laws.proofs.signal_laws.cap_opens_window.Goals as goal

pub returns : goal.returns
returns c = cap_opens_window
