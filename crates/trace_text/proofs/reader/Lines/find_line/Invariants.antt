use Rattle.std.proofs.Common.{◌≡◌, ◌-◌, ◌≤◌, length}
use Rattle.trace_text.specs.Ahead.{unread, ahead}
use Rattle.trace_text.proofs.reader.Lines.find_line.Given as goal

-- nothing was read yet
abbrev pub invariant-loop-n : goal.invariant-loop-n
invariant-loop-n g l = record {
  place : l.self.place ≡ l.initial.self.place;
  ahead : ahead l.self.held (g.S.Source.left l.src) ≡ ahead l.initial.self.held (g.S.Source.left l.initial.src);
  no_fewer : g.S.Source.faults l.initial.src ≤ g.S.Source.faults l.src;
}

abbrev pub decreases-loop-n : goal.decreases-loop-n
decreases-loop-n g l = 41 - length (unread l.self.held)
