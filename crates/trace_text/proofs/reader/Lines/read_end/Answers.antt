use Rattle.std.proofs.Common.{arith}
use Rattle.trace_text.specs.Ahead.{unread, ahead, place}
use Rattle.trace_text.proofs.Answering.{ends, goes_past, none_behind}
use Rattle.trace_text.proofs.reader.Lines.read_end.Goals as goal

pub returns-in-Ok-true-clause-answers : goal.returns-in-Ok-true-clause-answers
returns-in-Ok-true-clause-answers g c line one says =
    goes_past (place c.args.self.now) c.args.t line one says (unread c.has_more.new.self) (g.S.Source.left c.has_more.new.src)
    (ahead c.args.self.now.held (g.S.Source.left c.args.src.now)) (ahead c.has_more.new.self (g.S.Source.left c.has_more.new.src)) _
    (omega arith) c.has_more.ensures.ahead (c.in-Ok-true.ensures.more c.in-Ok-true.field-0-test)

pub returns-in-Ok-false-clause-answers : goal.returns-in-Ok-false-clause-answers
returns-in-Ok-false-clause-answers g c line one says =
    ends (place c.args.self.now) c.args.t line one says (unread c.has_more.new.self) (g.S.Source.left c.has_more.new.src)
    (ahead c.args.self.now.held (g.S.Source.left c.args.src.now)) (ahead c.has_more.new.self (g.S.Source.left c.has_more.new.src))
    c.requires.in_time c.has_more.ensures.ahead (c.in-Ok-false.ensures.none c.in-Ok-false.field-0-test) (c.in-Ok-false.ensures.end c.in-Ok-false.field-0-test)

pub returns-in-Ok-false-clause-no_event : goal.returns-in-Ok-false-clause-no_event
returns-in-Ok-false-clause-no_event g c line one says =
    none_behind (place c.args.self.now) c.args.t line one says (unread c.has_more.new.self)
    (g.S.Source.left c.has_more.new.src) (ahead c.args.self.now.held (g.S.Source.left c.args.src.now))
    c.has_more.ensures.ahead (c.in-Ok-false.ensures.none c.in-Ok-false.field-0-test)

pub returns-in-Err-clause-no_event : goal.returns-in-Err-clause-no_event
returns-in-Err-clause-no_event g c line one says =
    none_behind (place c.args.self.now) c.args.t line one says (unread c.has_more.new.self)
    (g.S.Source.left c.has_more.new.src) (ahead c.args.self.now.held (g.S.Source.left c.args.src.now))
    c.has_more.ensures.ahead c.in-Err.ensures.kept
