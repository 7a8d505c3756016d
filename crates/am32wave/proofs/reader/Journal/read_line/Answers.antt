use Rattle.std.proofs.Common.{refl, sym, ◌∙◌, arith}
use Rattle.trace_text.specs.Ahead.{unread}
use Rattle.am32wave.proofs.Lines.{no_note, passed}
use Rattle.am32wave.proofs.reader.Journal.read_line.Goals as goal

pub returns-in_default-clause-says : goal.returns-in_default-clause-says
returns-in_default-clause-says c left =
    (no_note (unread c.args.self.now.held) c.args.n left c.requires (λ m k e. c.in_default.ensures.every m k (e ∙ sym c.front.ensures)), refl)

pub returns-then-time-self-clause-says : goal.returns-then-time-self-clause-says
returns-then-time-self-clause-says c left = (
  record {
    note = c.in-Some.note;
    behind = _;
    ahead = passed (unread c.args.self.now.held) _ c.args.n c.in-Some.note left c.in-Some.ensures.found.0 (c.in-Some.ensures.found.1 ∙ c.front.ensures) refl;
    early = let e = c.time_of-time.ensures in omega arith;
  },
  refl,
)

pub returns-then-self-eq-MOST_LINES-clause-says : goal.returns-then-self-eq-MOST_LINES-clause-says
returns-then-self-eq-MOST_LINES-clause-says c left = (
  record {
    note = c.in-Some.note;
    behind = _;
    ahead = passed (unread c.args.self.now.held) _ c.args.n c.in-Some.note left c.in-Some.ensures.found.0 (c.in-Some.ensures.found.1 ∙ c.front.ensures) refl;
    all = c.if-self-eq-MOST_LINES.true;
  },
  refl,
)

pub returns-clause-says : goal.returns-clause-says
returns-clause-says c left = record {
  ahead = passed (unread c.args.self.now.held) (unread c.skip.new.self) c.args.n c.in-Some.note left
      c.in-Some.ensures.found.0 (c.in-Some.ensures.found.1 ∙ c.front.ensures) c.skip.ensures;
  later = let e = c.time_of-time.ensures in omega arith;
  time = c.time_of-time.ensures;
  line = refl;
}
