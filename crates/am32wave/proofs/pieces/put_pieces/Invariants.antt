use Rattle.std.proofs.Common.{◌≡◌, ◌≤◌, take}
use Rattle.std.specs.Io.KnownBytes.{append_known}
use Rattle.am32wave.specs.Pieces.{text}
use Rattle.am32wave.proofs.pieces.put_pieces.Given as goal

abbrev pub invariant-loop-piece : goal.invariant-loop-piece
invariant-loop-piece g l = record {
  given : g.K.Sink.given l.out ≡ append_known (g.K.Sink.given l.initial.out) (text (take l.piece-index l.pieces));
  no_fewer : g.K.Sink.faults l.initial.out ≤ g.K.Sink.faults l.out;
}
