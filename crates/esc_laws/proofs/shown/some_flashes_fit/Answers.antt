use Rattle.esc_laws.proofs.allowed.Flash.{some_flashes_fit}
use Rattle.esc_laws.proofs.shown.some_flashes_fit.Goals as goal

pub returns : goal.returns
returns c = some_flashes_fit
