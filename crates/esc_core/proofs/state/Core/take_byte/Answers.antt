use Rattle.std.proofs.Common.{refl}
use Rattle.esc_core.proofs.Taking.{made_by}
use Rattle.esc_core.proofs.state.Core.take_byte.Goals as goal

pub returns-clause-made : goal.returns-clause-made
returns-clause-made g c =
    rw (← c.self.view_is)
    (made_by c.armed-armed.result c.now.result.0 _ _ c.args.regs.now c.tell.new.regs (g.D.FlashDev.told c.args.dev.now)
    (g.D.FlashDev.told c.take-answered.new.dev) c.take-answered.result c.tell.result
    c.take-answered.new.self c.armed-armed.ensures c.now.ensures.now c.take-answered.ensures.takes c.tell.ensures.tells refl)
