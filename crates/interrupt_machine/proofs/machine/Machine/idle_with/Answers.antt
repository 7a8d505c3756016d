use Rattle.std.proofs.Common.{not, length, ◌∙◌, ap}
use Rattle.interrupt_machine.specs.Open.{due_now}
use Rattle.interrupt_machine.specs.Running.{Running}
use Rattle.interrupt_machine.proofs.OpenKinds.{idle_closed, idle_entered}
use Rattle.interrupt_machine.proofs.machine.Machine.idle_with.Goals as goal

pub returns-then-is_none : goal.returns-then-is_none
returns-then-is_none g c = λ b held e.
    idle_closed c.args.self.now.nest b.masked (g.F.Firmware.hold c.args.self.now.firmware) c.args.self.now.open_kinds
    (due_now (g.F.Firmware.waits c.args.self.now.firmware) b) c.args.entry c.depth.result (c.is_none.ensures ∙ ap not c.if-is_none.true)
    (c.depth.ensures.depth ∙ ap (λ (m : Running g.row.F.Denot). length m.open_kinds) c.self.view_is) held e

pub returns-else-is_none : goal.returns-else-is_none
returns-else-is_none g c = λ b held e.
    c.if-is_none.false
    ∙ idle_entered c.args.self.now.nest b.masked c.args.self.now.open_kinds (due_now (g.F.Firmware.waits c.args.self.now.firmware) b) c.args.entry
    (c.is_none.ensures ∙ ap not c.if-is_none.false) e
