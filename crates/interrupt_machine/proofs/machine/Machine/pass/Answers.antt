use Rattle.interrupt_machine.proofs.Waiting.{pass_logged}
use Rattle.interrupt_machine.proofs.machine.Machine.pass.Goals as goal

pub returns-clause-response : goal.returns-clause-response
returns-clause-response g c = λ log. rw c.advance.ensures.regs (pass_logged c.args.self.now.nest _ _ _ _ _ log)
