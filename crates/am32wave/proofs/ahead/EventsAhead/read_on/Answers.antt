use Rattle.am32wave.proofs.Merging.{events_end, events_cut, events_refused}
use Rattle.am32wave.proofs.ahead.EventsAhead.read_on.Goals as goal

pub returns-in-End-clause-goes_on : goal.returns-in-End-clause-goes_on
returns-in-End-clause-goes_on g c first events t h =
    events_end c.args.self.now.next c.args.self.now.lines first (g.T.Source.left c.args.trace.now) (g.T.Source.left c.next.new.src) events t c.in-End.field-0
    c.in-Unread.is h c.in-End.ensures.taken c.in-End.ensures.end

pub returns-in-Fault-clause-stops : goal.returns-in-Fault-clause-stops
returns-in-Fault-clause-stops g c first events t h =
    events_cut c.args.self.now.next c.args.self.now.lines first (g.T.Source.left c.args.trace.now) (g.T.Source.left c.next.new.src) events t c.in-Unread.is h
    c.in-Fault.ensures.taken

pub returns-in-Refused-clause-stops : goal.returns-in-Refused-clause-stops
returns-in-Refused-clause-stops g c first events t h =
    events_refused c.args.self.now.next c.args.self.now.lines first (g.T.Source.left c.args.trace.now) (g.T.Source.left c.next.new.src) events t
    c.line-line.result _ c.in-Refused.kind c.in-Unread.is h c.in-Refused.ensures.refused c.line-line.ensures
