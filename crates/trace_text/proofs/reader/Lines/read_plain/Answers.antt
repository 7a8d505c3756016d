use Rattle.std.proofs.Common.{List, ℕ, ◌∙◌, sym, ap, subst, take}
use Rattle.trace_text.specs.Line.{said}
use Rattle.trace_text.specs.Ahead.{unread, place, IsLine}
use Rattle.trace_text.proofs.Answering.{says_event_at}
use Rattle.trace_text.proofs.reader.Lines.read_plain.Goals as goal

pub returns-clause-answers : goal.returns-clause-answers
returns-clause-answers c left =
    let p = place c.args.self.now in
    let n = c.in_ok-event.len in
    says_event_at p (unread c.args.self.now.held) n (subst (λ (xs : List ℕ). IsLine n xs) c.all.ensures c.in_ok-event.ensures.line)
    left c.in_ok-event.event c.after-self.result (unread c.skip.new.self)
    (ap (λ (xs : List ℕ). said p (take n xs)) (sym c.all.ensures) ∙ c.in_ok-event.ensures.said)
    c.in_ok-event.ensures.follows c.after-self.ensures c.skip.ensures
