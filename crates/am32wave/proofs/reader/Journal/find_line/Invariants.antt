use Rattle.std.proofs.Common.{◌≡◌, ◌≤◌, ◌-◌, length}
use Rattle.trace_text.specs.Ahead.{unread, ahead}
use Rattle.am32wave.proofs.reader.Journal.find_line.Given as goal

-- nothing was read yet
abbrev pub invariant-loop-n : goal.invariant-loop-n
invariant-loop-n g l = record {
  line : l.self.line ≡ l.initial.self.line;
  time : l.self.time ≡ l.initial.self.time;
  ahead : ahead l.self.held (g.S.Source.left l.src) ≡ ahead l.initial.self.held (g.S.Source.left l.initial.src);
  no_fewer : g.S.Source.faults l.initial.src ≤ g.S.Source.faults l.src;
}

abbrev pub decreases-loop-n : goal.decreases-loop-n
decreases-loop-n g l = 46 - length (unread l.self.held)
