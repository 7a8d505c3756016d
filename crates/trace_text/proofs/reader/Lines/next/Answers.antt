use Rattle.std.proofs.Common.{refl, sym, ◌∙◌, ap, arith}
use Rattle.trace_text.specs.declared.item.Place.{Place}
use Rattle.trace_text.specs.declared.item.Item.TheVariants as item
use Rattle.trace_text.specs.declared.reader.Lines.{Lines}
use Rattle.trace_text.specs.Ahead.{ahead, place, next_line}
use Rattle.trace_text.proofs.Answering.{read_more_if, taken_if, same_answers, same_none}
use Rattle.trace_text.proofs.reader.Lines.next.Goals as goal

pub returns-then-self-eq-MOST_LINES-clause-taken : goal.returns-then-self-eq-MOST_LINES-clause-taken
returns-then-self-eq-MOST_LINES-clause-taken g c =
    taken_if c.args.self.now (g.S.Source.left c.args.src.now) (g.S.Source.left c.past_last.new.src) c.past_last.result c.past_last.ensures.no_event

-- ---- a plain line

pub returns-in-Some-clause-event : goal.returns-in-Some-clause-event
returns-in-Some-clause-event g c =
    let left = g.S.Source.left c.args.src.now in
    read_more_if c.args.self.now c.read_plain.new.self left left (item.Event c.in-Some.event) (c.in-Some.ensures.answers left)

pub returns-in-Some-clause-follows : goal.returns-in-Some-clause-follows
returns-in-Some-clause-follows g c = (c.in-Some.ensures.answers (g.S.Source.left c.args.src.now)).follows

pub returns-in-Some-clause-goes_on : goal.returns-in-Some-clause-goes_on
returns-in-Some-clause-goes_on g c = (c.in-Some.ensures.answers (g.S.Source.left c.args.src.now)).goes_on

pub returns-in-Some-clause-few : goal.returns-in-Some-clause-few
returns-in-Some-clause-few g c = let next = (c.in-Some.ensures.answers (g.S.Source.left c.args.src.now)).line in omega arith

pub returns-in-Some-clause-line : goal.returns-in-Some-clause-line
returns-in-Some-clause-line g c = (c.in-Some.ensures.answers (g.S.Source.left c.args.src.now)).line

-- ---- each other line

pub returns-in-Ok-clause-event : goal.returns-in-Ok-clause-event
returns-in-Ok-clause-event g c =
    let left = g.S.Source.left c.args.src.now in
    let kept = c.in_default.ensures.kept in
    let before = ahead c.args.self.now.held left in
    let found = ahead c.find_line.new.self.held (g.S.Source.left c.find_line.new.src) in
    read_more_if c.args.self.now c.read_line.new.self left (g.S.Source.left c.read_line.new.src) c.read_line.result
    (same_answers (place c.args.self.now) (place c.find_line.new.self) (place c.read_line.new.self) (place c.read_line.new.self) before found
    (ahead c.read_line.new.self.held (g.S.Source.left c.read_line.new.src)) c.read_line.result
    (c.find_line.ensures.place ∙ ap place kept) (c.find_line.ensures.ahead ∙ ap (λ (l : Lines). ahead l.held left) kept) refl c.read_line.ensures.answers)

pub returns-in-Ok-clause-taken : goal.returns-in-Ok-clause-taken
returns-in-Ok-clause-taken g c =
    let left = g.S.Source.left c.args.src.now in
    let kept = c.in_default.ensures.kept in
    taken_if c.args.self.now left (g.S.Source.left c.read_line.new.src) c.read_line.result
    (same_none (place c.args.self.now) (place c.find_line.new.self) (ahead c.args.self.now.held left)
    (ahead c.find_line.new.self.held (g.S.Source.left c.find_line.new.src)) (g.S.Source.left c.read_line.new.src) c.read_line.result
    (c.find_line.ensures.place ∙ ap place kept) (c.find_line.ensures.ahead ∙ ap (λ (l : Lines). ahead l.held left) kept) c.read_line.ensures.no_event)

pub returns-in-Err-clause-event : goal.returns-in-Err-clause-event
returns-in-Err-clause-event g c =
    let left = g.S.Source.left c.args.src.now in
    let kept = c.in_default.ensures.kept in
    let p = place c.read_plain.new.self in
    read_more_if c.args.self.now _ left (g.S.Source.left c.find_line.new.src) c.in-Err.item
    (same_answers (place c.args.self.now) p (next_line (place c.find_line.new.self)) (next_line p) (ahead c.args.self.now.held left)
    (ahead c.read_plain.new.self.held left) (ahead c.find_line.new.self.held (g.S.Source.left c.find_line.new.src)) c.in-Err.item
    (ap place kept) (ap (λ (l : Lines). ahead l.held left) kept) (ap (λ (q : Place). next_line q) (sym c.find_line.ensures.place)) c.in-Err.ensures.answers)

pub returns-in-Err-clause-taken : goal.returns-in-Err-clause-taken
returns-in-Err-clause-taken g c =
    let left = g.S.Source.left c.args.src.now in
    let kept = c.in_default.ensures.kept in
    taken_if c.args.self.now left (g.S.Source.left c.find_line.new.src) c.in-Err.item
    (same_none (place c.args.self.now) (place c.read_plain.new.self) (ahead c.args.self.now.held left)
    (ahead c.read_plain.new.self.held left) (g.S.Source.left c.find_line.new.src) c.in-Err.item
    (ap place kept) (ap (λ (l : Lines). ahead l.held left) kept) c.in-Err.ensures.no_event)
