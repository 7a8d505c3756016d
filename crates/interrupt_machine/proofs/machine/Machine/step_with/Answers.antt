use Rattle.std.proofs.Common.{sym, ◌∙◌}
use Rattle.interrupt_machine.proofs.OpenKinds.{some_open}
use Rattle.interrupt_machine.proofs.machine.Machine.step_with.Goals as goal

-- an entry leaves the flash
pub returns-in-Some : goal.returns-in-Some
returns-in-Some g c = c.enter.ensures (g.D.FlashDev.told c.args.dev.now)

pub own_step-requires-clause-some_open : goal.own_step-requires-clause-some_open
own_step-requires-clause-some_open g c = λ e. some_open _ _ _ _ _ c.requires.busy c.requires.mask (sym c.in-None.is ∙ c.requires.entry) e
