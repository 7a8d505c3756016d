use Rattle.am32trace.proofs.Flying.{writes_other}
use Rattle.am32trace.proofs.flight.Flight.put_other.Goals as goal

pub returns : goal.returns
returns g c =
    writes_other c.args.self.now c.put.new.self (g.K.Sink.given c.args.out.now) (g.K.Sink.given c.put.new.out) c.args.event c.requires.other
    c.in_ok-put.ensures.ok c.in_ok-put.ensures.same c.requires.well
