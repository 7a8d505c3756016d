use Rattle.std.proofs.Common.{sym, ◌∙◌}
use Rattle.interrupt_machine.specs.Open.{due_now}
use Rattle.interrupt_machine.proofs.OpenKinds.{highest_above, highest_below}
use Rattle.interrupt_machine.proofs.machine.Machine.entry.Goals as goal

pub returns-in-Some : goal.returns-in-Some
returns-in-Some g c =
    let due = due_now (g.F.Firmware.waits c.args.self.now.firmware) c.args.regs.now in
    let above = highest_above due c.in-Some.kind (sym (c.due_above_cap.ensures (g.F.Firmware.waits c.args.self.now.firmware)) ∙ c.in-Some.is) in
    record { entry = rw (sym c.masked.ensures ∙ c.if-masked.false, above) c.entry_of.ensures }

pub returns-in-None : goal.returns-in-None
returns-in-None g c =
    let due = due_now (g.F.Firmware.waits c.args.self.now.firmware) c.args.regs.now in
    let below = highest_below due (sym (c.due_above_cap.ensures (g.F.Firmware.waits c.args.self.now.firmware)) ∙ c.in-None.is) in
    record { entry = rw (sym c.masked.ensures ∙ c.if-masked.false, below) c.entry_up_to_cap.ensures }
