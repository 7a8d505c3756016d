use Rattle.std.proofs.Common.{◌≡◌, true}
use Rattle.interrupt_machine.specs.Turn.{IsHeld}
use Rattle.core_tests.proofs.steps.follow.Given as goal

abbrev pub invariant-loop-row : goal.invariant-loop-row
invariant-loop-row g l = l.regs.masked ≡ true → IsHeld l.machine.firmware.hold l.machine.open_kinds
