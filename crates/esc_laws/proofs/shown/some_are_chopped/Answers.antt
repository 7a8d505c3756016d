use Rattle.esc_laws.proofs.refused.Chops.{some_are_chopped}
use Rattle.esc_laws.proofs.shown.some_are_chopped.Goals as goal

pub returns : goal.returns
returns c = some_are_chopped
