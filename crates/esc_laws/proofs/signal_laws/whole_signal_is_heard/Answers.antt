use Rattle.esc_laws.proofs.HeardWhole.{whole_signal_is_heard}
use Rattle.esc_laws.proofs.signal_laws.whole_signal_is_heard.Goals as goal

pub returns : goal.returns
returns c = whole_signal_is_heard
