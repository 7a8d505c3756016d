use Rattle.std.proofs.Common.{Ok, sym, ◌∙◌, ap, take}
use Rattle.trace_text.specs.declared.parse.Entry.{Entry}
use Rattle.trace_text.specs.Line.{said}
use Rattle.trace_text.specs.Ahead.{unread, ahead, place}
use Rattle.trace_text.proofs.Answering.{says_event_at, says_refused, says_whole, none_whole, fits_event, of_line}
use Rattle.trace_text.proofs.reader.Lines.read_line.Goals as goal

pub returns-in-Event-clause-answers : goal.returns-in-Event-clause-answers
returns-in-Event-clause-answers g c =
    let p = place c.args.self.now in
    let is = c.in-Ok.is ∙ ap (λ (e : Entry). Ok e) c.in-Event.is in
    says_event_at p (unread c.args.self.now.held) c.args.n c.requires.found
    (g.S.Source.left c.args.src.now) c.in-Event.event c.after-self.result (unread c.skip.new.self)
    (ap (said p) (sym c.front.ensures) ∙ sym c.parse.ensures.said ∙ is)
    (fits_event p c.parse.result c.in-Event.event c.parse.ensures.fits is) c.after-self.ensures c.skip.ensures

pub returns-in-End-clause-answers : goal.returns-in-End-clause-answers
returns-in-End-clause-answers g c =
    let p = place c.args.self.now in
    let held = unread c.args.self.now.held in
    says_whole p held c.args.n c.requires.found (g.S.Source.left c.args.src.now) (ahead c.read_end.new.self.held (g.S.Source.left c.read_end.new.src))
    c.read_end.result (place c.read_end.new.self) (unread c.skip.new.self) c.skip.ensures
    (c.read_end.ensures.answers (take c.args.n held) c.requires.found.one
    (ap (said p) (sym c.front.ensures) ∙ sym c.parse.ensures.said ∙ c.in-Ok.is ∙ ap (λ (e : Entry). Ok e) c.in-End.is))

pub returns-in-End-clause-no_event : goal.returns-in-End-clause-no_event
returns-in-End-clause-no_event g c =
    let p = place c.args.self.now in
    let held = unread c.args.self.now.held in
    none_whole p held c.args.n c.requires.found c.read_end.result (g.S.Source.left c.args.src.now)
    (g.S.Source.left c.read_end.new.src) (unread c.skip.new.self) c.skip.ensures
    (c.read_end.ensures.no_event (take c.args.n held) c.requires.found.one
    (ap (said p) (sym c.front.ensures) ∙ sym c.parse.ensures.said ∙ c.in-Ok.is ∙ ap (λ (e : Entry). Ok e) c.in-End.is))

pub returns-in-Err-clause-answers : goal.returns-in-Err-clause-answers
returns-in-Err-clause-answers g c =
    let p = place c.args.self.now in
    says_refused p (unread c.args.self.now.held) c.args.n c.requires.found (g.S.Source.left c.args.src.now)
    (ahead c.args.self.now.held (g.S.Source.left c.args.src.now)) c.in-Err.kind
    (ap (said p) (sym c.front.ensures) ∙ sym c.parse.ensures.said ∙ c.in-Err.is) (of_line c.parse.result c.in-Err.kind c.parse.ensures.refused c.in-Err.is)
