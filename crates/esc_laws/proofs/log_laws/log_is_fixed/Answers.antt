use Rattle.esc_laws.proofs.LogFixed.{log_fixed}
use Rattle.esc_laws.proofs.log_laws.log_is_fixed.Goals as goal

pub returns : goal.returns
returns c = log_fixed
