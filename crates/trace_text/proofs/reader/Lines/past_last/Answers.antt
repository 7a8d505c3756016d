use Rattle.std.proofs.Common.{arith}
use Rattle.trace_text.specs.Ahead.{unread, ahead, place}
use Rattle.trace_text.proofs.Answering.{too_many, nothing_left, none_held}
use Rattle.trace_text.proofs.reader.Lines.past_last.Goals as goal

pub returns-in-Ok-true-clause-answers : goal.returns-in-Ok-true-clause-answers
returns-in-Ok-true-clause-answers g c =
    too_many (place c.args.self.now) (unread c.has_more.new.self) (g.S.Source.left c.has_more.new.src)
    (ahead c.args.self.now.held (g.S.Source.left c.args.src.now)) (ahead c.has_more.new.self (g.S.Source.left c.has_more.new.src))
    (omega arith) c.has_more.ensures.ahead (c.in-Ok-true.ensures.more c.in-Ok-true.field-0-test)

pub returns-in-Ok-false-clause-answers : goal.returns-in-Ok-false-clause-answers
returns-in-Ok-false-clause-answers g c =
    nothing_left (place c.args.self.now) (unread c.has_more.new.self) (g.S.Source.left c.has_more.new.src)
    (ahead c.args.self.now.held (g.S.Source.left c.args.src.now)) (ahead c.has_more.new.self (g.S.Source.left c.has_more.new.src))
    c.has_more.ensures.ahead (c.in-Ok-false.ensures.end c.in-Ok-false.field-0-test) (c.in-Ok-false.ensures.none c.in-Ok-false.field-0-test)

pub returns-in-Err-clause-no_event : goal.returns-in-Err-clause-no_event
returns-in-Err-clause-no_event g c =
    none_held (place c.args.self.now) (unread c.has_more.new.self) (g.S.Source.left c.has_more.new.src)
    (ahead c.args.self.now.held (g.S.Source.left c.args.src.now))
    c.has_more.ensures.ahead c.in-Err.ensures.kept
