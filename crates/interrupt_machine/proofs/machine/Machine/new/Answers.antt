use Rattle.interrupt_machine.proofs.Waiting.{start_responds}
use Rattle.interrupt_machine.proofs.machine.Machine.new.Goals as goal

pub returns-clause-response : goal.returns-clause-response
returns-clause-response g c = λ due. start_responds c.args.nest _ due
