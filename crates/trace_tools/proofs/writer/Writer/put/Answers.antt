use Rattle.std.proofs.Common.{arith}
use Rattle.trace_tools.proofs.Steps.{written_event}
use Rattle.trace_tools.proofs.writer.Writer.put.Goals as goal

pub returns-in-Ok-clause-ok : goal.returns-in-Ok-clause-ok
returns-in-Ok-clause-ok g c = λ first events.
    written_event c.args.self.now _ first (g.K.Sink.given c.args.out.now) (g.K.Sink.given c.put.new.self) events c.args.event.now
    c.in_default.ensures.follows c.in_default.ensures.byte (let e = c.in_default.ensures.room in omega arith) c.after-self.ensures
    (rw (← c.event_text.ensures, ← c.as_bytes.ensures) c.in-Ok.ensures.appended)
