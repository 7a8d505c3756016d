use Rattle.esc_laws.proofs.RestOpens.{rest_calls_cap}
use Rattle.esc_laws.proofs.signal_laws.rest_calls_cap.Goals as goal

pub returns : goal.returns
returns c = rest_calls_cap
