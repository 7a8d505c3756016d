use Rattle.std.proofs.Common.{add-one}
use Rattle.esc_base.proofs.FlashLaws.{and_step}
use Rattle.esc_base.proofs.cells.and_into.Goals as goal

pub loop-i-preserved : goal.loop-i-preserved
loop-i-preserved c = rw (c.loop-i.invariant, add-one) (and_step c.args.cells.now c.args.bytes.now c.loop-i.i c.loop-i-test.true c.requires)
