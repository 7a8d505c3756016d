use Rattle.std.proofs.Common.{◌≡◌, ◌+◌, ◌++◌, take}
use Rattle.arrayvec.specs.ArrayVec.{array_vec_len}
use Rattle.am32wave.proofs.pieces.push_all.Given as goal

abbrev pub invariant-loop-piece : goal.invariant-loop-piece
invariant-loop-piece l = record {
  items : l.page.items ≡ l.initial.page.items ++ take l.piece-index l.pieces;
  len : array_vec_len l.page ≡ array_vec_len l.initial.page + l.piece-index;
}
