use Rattle.timer_regs.specs.declared.regs.Reg.TheVariants.{Mask, TickState}
use Rattle.interrupt_machine.specs.Did.{Reads, Writes}
use Rattle.core_tests.proofs.interrupts.ScriptFirmware.step.Goals as goal

pub returns-then-self-at-eq0-clause-access : goal.returns-then-self-at-eq0-clause-access
returns-then-self-at-eq0-clause-access g c = record { access = Writes Mask 0; after_is = c.write.ensures }

pub returns-then-not-masked-clause-access : goal.returns-then-not-masked-clause-access
returns-then-not-masked-clause-access g c = record { access = Reads TickState; after_is = c.read.ensures.regs }

pub returns-clause-access : goal.returns-clause-access
returns-clause-access g c = record { access = Writes Mask _; after_is = c.write-2.ensures }
