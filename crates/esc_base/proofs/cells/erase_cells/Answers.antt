use Rattle.std.proofs.Common.{arith}
use Rattle.esc_base.proofs.FlashLaws.{blanked_part}
use Rattle.esc_base.proofs.cells.erase_cells.Goals as goal

pub returns : goal.returns
returns c = blanked_part c.args.cells.now c.blank_all.new.cells c.args.at c.args.n _ (omega arith) c.requires c.blank_all.ensures
