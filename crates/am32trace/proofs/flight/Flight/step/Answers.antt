use Rattle.std.proofs.Common.{◌∙◌, ap, subst}
use Rattle.esc_base.specs.declared.event.Event.{Event}
use Rattle.am32trace.specs.declared.signal_line.SignalLine.{SignalLine}
use Rattle.am32trace.specs.Line.{pending, due_now, sender_after, Adds}
use Rattle.am32trace.specs.Flown.{event_of, Writes}
use Rattle.am32trace.proofs.Flying.{writes_edge, writes_other, no_edge_comp, no_edge_serial}
use Rattle.am32trace.proofs.flight.Flight.step.Goals as goal

pub returns-in-Signal-clause-ok : goal.returns-in-Signal-clause-ok
returns-in-Signal-clause-ok g c =
    let same = c.in_ok-put.ensures.same in
    rw c.in-Signal.is
    (writes_edge c.args.self.now _ (g.K.Sink.given c.args.out.now) (g.K.Sink.given c.put.new.out) c.in-Signal.edge (due_now c.args.self.now.signal) _
    (subst (λ (e : Event). Writes c.args.self.now.writer (g.K.Sink.given c.args.out.now) e c.put.new.self.writer (g.K.Sink.given c.put.new.out))
    (c.event.ensures ∙ ap event_of c.in-Signal.is) c.in_ok-put.ensures.ok)
    (subst (λ (l : SignalLine). Adds c.in-Signal.edge (pending l) (pending c.advance.new.self) (due_now l)) same c.advance.ensures.adds)
    c.advance.ensures.well (c.advance.ensures.sender ∙ ap sender_after same))

pub returns-in-Comparator-clause-ok : goal.returns-in-Comparator-clause-ok
returns-in-Comparator-clause-ok g c =
    rw c.in-Comparator.is
    (writes_other c.args.self.now _ (g.K.Sink.given c.args.out.now) (g.K.Sink.given c.put.new.out) _ (no_edge_comp c.in-Comparator.t c.in-Comparator.level)
    (subst (λ (e : Event). Writes c.args.self.now.writer (g.K.Sink.given c.args.out.now) e c.put.new.self.writer (g.K.Sink.given c.put.new.out))
    (c.event.ensures ∙ ap event_of c.in-Comparator.is) c.in_ok-put.ensures.ok)
    c.in_ok-put.ensures.same c.requires.well)

pub returns-in-Serial-clause-ok : goal.returns-in-Serial-clause-ok
returns-in-Serial-clause-ok g c =
    rw c.in-Serial.is
    (writes_other c.args.self.now _ (g.K.Sink.given c.args.out.now) (g.K.Sink.given c.put.new.out) _ (no_edge_serial c.in-Serial.t c.in-Serial.byte)
    (subst (λ (e : Event). Writes c.args.self.now.writer (g.K.Sink.given c.args.out.now) e c.put.new.self.writer (g.K.Sink.given c.put.new.out))
    (c.event.ensures ∙ ap event_of c.in-Serial.is) c.in_ok-put.ensures.ok)
    c.in_ok-put.ensures.same c.requires.well)
