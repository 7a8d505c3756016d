use Rattle.std.proofs.Common.{◌≡◌, true}
use Rattle.interrupt_machine.specs.Turn.{IsHeld}
use Rattle.core_tests.proofs.crossings.crossings_after.Given as goal

abbrev pub invariant-loop-t : goal.invariant-loop-t
invariant-loop-t g l = l.regs.masked ≡ true → IsHeld l.machine.firmware.hold l.machine.open_kinds
