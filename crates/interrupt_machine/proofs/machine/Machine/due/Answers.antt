use Rattle.std.proofs.Common.{sym, ◌∙◌}
use Rattle.interrupt_machine.specs.Open.{due_now}
use Rattle.interrupt_machine.proofs.OpenKinds.{highest_above, highest_below}
use Rattle.interrupt_machine.proofs.machine.Machine.due.Goals as goal

pub returns-in-Some : goal.returns-in-Some
returns-in-Some g c =
    let waits = g.F.Firmware.waits c.args.self.now.firmware in
    sym (highest_above (due_now waits c.args.regs.now) c.in-Some.kind (sym (c.due_above_cap.ensures waits) ∙ c.in-Some.is))

pub returns-in-None : goal.returns-in-None
returns-in-None g c =
    let waits = g.F.Firmware.waits c.args.self.now.firmware in
    c.due_up_to_cap.ensures ∙ sym (highest_below (due_now waits c.args.regs.now) (sym (c.due_above_cap.ensures waits) ∙ c.in-None.is))
