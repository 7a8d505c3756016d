use Rattle.std.proofs.Common.{◌≡◌, ◌≤◌, take}
use Rattle.std.specs.Io.KnownBytes.{append_known}
use Rattle.trace_text.specs.Text.{Text}
use Rattle.trace_runner.specs.Lines.{TookLines}
use Rattle.trace_runner.proofs.lines.put_all.Given as goal

abbrev pub invariant-loop-note : goal.invariant-loop-note
invariant-loop-note g l = record {
  took : TookLines g.K.Sink.took l.initial.out (take l.note-index l.notes) l.out;
  given : g.K.Sink.given l.out ≡ append_known (g.K.Sink.given l.initial.out) (Text (take l.note-index l.notes));
  no_fewer : g.K.Sink.faults l.initial.out ≤ g.K.Sink.faults l.out;
}
