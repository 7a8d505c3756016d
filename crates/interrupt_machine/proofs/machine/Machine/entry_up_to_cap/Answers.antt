use Rattle.std.proofs.Common.{sym, ◌∙◌, ap, Some, Option}
use Rattle.esc_base.specs.declared.kind.Kind.{Kind}
use Rattle.interrupt_machine.specs.Open.{innermost, due_now}
use Rattle.interrupt_machine.proofs.OpenKinds.{stays_in_cap}
use Rattle.interrupt_machine.proofs.machine.Machine.entry_up_to_cap.Goals as goal

pub returns-in-Some-Cap : goal.returns-in-Some-Cap
returns-in-Some-Cap g c =
    stays_in_cap c.args.self.now.nest (innermost c.args.self.now.open_kinds) (due_now (g.F.Firmware.waits c.args.self.now.firmware) c.args.regs.now)
    (rw (← c.self.view_is) (sym c.innermost.ensures ∙ c.in-Some-Cap.is ∙ ap (λ (k : Kind). Some k) c.in-Some-Cap.field-0-is))
