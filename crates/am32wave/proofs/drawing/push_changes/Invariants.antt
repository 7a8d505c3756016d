use Rattle.std.proofs.Common.{◌≡◌, ◌≤◌, ◌+◌, ◌++◌, drop, All}
use Rattle.arrayvec.specs.ArrayVec.{array_vec_len}
use Rattle.am32wave.specs.Pieces.{text, Fits}
use Rattle.am32wave.specs.Drawn.{changes}
use Rattle.am32wave.proofs.drawing.push_changes.Given as goal

-- what was pushed, and what the wires that are left owe
abbrev pub invariant-loop-i : goal.invariant-loop-i
invariant-loop-i l = record {
  text : text l.page.items ++ changes l.plan.view l.plan.stretch l.fn.t.0 l.i l.before l.after (drop l.i l.wires) ≡ text l.initial.page.items ++ changes l.plan.view l.plan.stretch l.fn.t.0 0 l.before l.after l.wires;
  fits : All Fits l.page.items;
  len : array_vec_len l.page ≤ array_vec_len l.initial.page + l.i;
}
