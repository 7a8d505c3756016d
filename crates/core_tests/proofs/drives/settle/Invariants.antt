use Rattle.std.proofs.Common.{◌≡◌, true}
use Rattle.interrupt_machine.specs.Turn.{IsHeld}
use Rattle.core_tests.proofs.drives.settle.Given as goal

abbrev pub invariant-loop : goal.invariant-loop
invariant-loop g l = l.regs.masked ≡ true → IsHeld l.machine.firmware.hold l.machine.open_kinds
