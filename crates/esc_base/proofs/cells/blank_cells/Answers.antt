use Rattle.esc_base.specs.Flash.{blank}
use Rattle.esc_base.proofs.cells.blank_cells.Goals as goal

pub returns-in-Ok-clause-cells : goal.returns-in-Ok-clause-cells
unfolding blank
returns-in-Ok-clause-cells c = c.in-Ok.ensures.items_if_clones_equal (λ y same. same)
