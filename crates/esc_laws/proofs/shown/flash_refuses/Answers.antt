use Rattle.esc_laws.proofs.refused.Flash.{flash_refuses}
use Rattle.esc_laws.proofs.shown.flash_refuses.Goals as goal

pub returns : goal.returns
returns c = flash_refuses
