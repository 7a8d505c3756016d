use Rattle.am32trace.proofs.Flying.{flight_ends}
use Rattle.am32trace.proofs.Running.{left_late}
use Rattle.am32trace.proofs.flight.Flight.end.Goals as goal

pub returns-in-Ok : goal.returns-in-Ok
returns-in-Ok g c =
    flight_ends c.args.self.now c.reach.new.self (g.K.Sink.given c.args.out.now) (g.K.Sink.given c.reach.new.out) (g.K.Sink.given c.end.new.out) c.args.t.0
    _ _ c.in_ok-reach.ensures.goes_on
    (left_late c.reach.new.self.signal.sending c.reach.new.self.signal.mode c.reach.new.self.signal.repeated c.args.t.0
    c.in_ok-reach.ensures.reached)
    c.in-Ok.ensures.ok
