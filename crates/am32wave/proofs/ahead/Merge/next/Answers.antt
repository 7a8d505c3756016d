use Rattle.am32wave.proofs.Merging.{notes_stop, events_stop}
use Rattle.am32wave.proofs.ahead.Merge.next.Goals as goal

pub returns-in-Err-clause-says : goal.returns-in-Err-clause-says
returns-in-Err-clause-says g c nf ef moments h =
    notes_stop c.args.self.now _ nf (g.S.Source.left c.args.src.now) (g.S.Source.left c.read_on.new.src) ef (g.T.Source.left c.args.trace.now) moments h
    (c.in-Err.ensures.stops nf _ _ h.notes)

pub returns-in-Err-read_on-clause-says : goal.returns-in-Err-read_on-clause-says
returns-in-Err-read_on-clause-says g c nf ef moments h =
    events_stop (record { notes = c.read_on.new.self; events = c.args.self.now.events }) _ nf (g.S.Source.left c.read_on.new.src) ef
    (g.T.Source.left c.args.trace.now) (g.T.Source.left c.read_on-2.new.trace) moments (c.in_default.ensures.goes_on nf _ _ h.notes) h.order
    (c.in-Err-read_on.ensures.stops ef _ _ h.events)
