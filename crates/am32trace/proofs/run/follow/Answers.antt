use Rattle.am32trace.proofs.Following.{signal_line, action_line, end_line}
use Rattle.am32trace.proofs.run.follow.Goals as goal

pub returns-in_ok-set_signal-in-Some-Signal : goal.returns-in_ok-set_signal-in-Some-Signal
returns-in_ok-set_signal-in-Some-Signal g c =
    rw (c.in-Some-Signal.is, c.in-Some-Signal.field-0-is)
    (signal_line c.args.flight.now c.set_signal.new.self (g.K.Sink.given c.args.out.now) (g.K.Sink.given c.set_signal.new.out)
    c.in-Some-Signal.mode c.in-Some-Signal.period c.in_ok-set_signal-in-Some-Signal.ensures)

pub returns-in_ok-act-in-Some-At : goal.returns-in_ok-act-in-Some-At
returns-in_ok-act-in-Some-At g c =
    rw (c.in-Some-At.is, c.in-Some-At.field-0-is)
    (action_line c.args.flight.now c.act.new.self (g.K.Sink.given c.args.out.now) (g.K.Sink.given c.act.new.out) c.in-Some-At.t c.in-Some-At.action
    c.in_ok-act-in-Some-At.ensures)

pub returns-in_ok-end-in-Some-End : goal.returns-in_ok-end-in-Some-End
returns-in_ok-end-in-Some-End g c =
    rw (c.in-Some-End.is, c.in-Some-End.field-0-is)
    (end_line c.args.flight.now (g.K.Sink.given c.args.out.now) (g.K.Sink.given c.end.new.out) c.in-Some-End.t c.in_ok-end-in-Some-End.ensures)
