use Rattle.std.proofs.Common.{arith}
use Rattle.trace_tools.proofs.Steps.{written_end}
use Rattle.trace_tools.proofs.writer.Writer.end.Goals as goal

pub returns-in-Ok-clause-ok : goal.returns-in-Ok-clause-ok
returns-in-Ok-clause-ok g c = λ first events.
    written_end c.args.self.now first (g.K.Sink.given c.args.out.now) (g.K.Sink.given c.put.new.self) events c.args.t
    c.if-t-self.false c.if-t-gt-LAST_TICK.false (let few = c.args.self.now.few in omega arith)
    (rw (← c.end_text.ensures, ← c.as_bytes.ensures) c.in-Ok.ensures.appended)
