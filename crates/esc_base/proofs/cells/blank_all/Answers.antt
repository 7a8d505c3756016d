use Rattle.esc_base.specs.Flash.{blank}
use Rattle.esc_base.proofs.cells.blank_all.Goals as goal

pub returns : goal.returns
unfolding blank
returns c = c.fill.ensures.after (λ y same. same)
