use Rattle.std.proofs.Common.{rules}
use Rattle.am32csv.specs.Rows.{IsTickOf, zeroth}
use Rattle.am32csv.proofs.Rows.{ok_then, row_writes}
use Rattle.am32csv.proofs.capture.Capture.row.Goals as goal

pub returns-clause-writes : goal.returns-clause-writes
returns-clause-writes g c none =
    let is_tick : IsTickOf c.args.self.now.layout.clock (zeroth c.args.self.now c.args.stamp) c.args.stamp c.in_ok-t.t = search rules in
    ok_then c.write.result c.write.ensures.writes (λ w.
    row_writes c.args.self.now c.is_of_reply.new.self c.write.new.self (g.K.Sink.given c.args.out.now) (g.K.Sink.given c.write.new.out) c.args.stamp
    c.args.level (record { 0 = c.in_ok-t.t }) c.is_of_reply.ensures.writer c.is_of_reply.ensures.written is_tick w)
