use Rattle.std.proofs.Common.{◌≡◌, take}
use Rattle.esc_base.specs.Flash.{and_front}
use Rattle.esc_base.proofs.cells.and_into.Given as goal

abbrev pub invariant-loop-i : goal.invariant-loop-i
invariant-loop-i l = l.cells ≡ and_front l.initial.cells (take l.i l.bytes)
