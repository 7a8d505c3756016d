use Rattle.std.proofs.Common.{◌≡◌, [], ap, refl, sym, subst}
use Rattle.am32trace.specs.Line.{left_of, pending, sender_of, IsWell}
use Rattle.am32trace.proofs.Flying.{writes_edge, level_begun}
use Rattle.am32trace.proofs.flight.Flight.put_level.Goals as goal

pub returns : goal.returns
returns g c =
    let quiet : pending c.args.self.now.signal ≡ [] = ap left_of (c.if-not-is_quiet.ensures refl) in
    let same = c.in_ok-put.ensures.same in
    writes_edge c.args.self.now c.put.new.self (g.K.Sink.given c.args.out.now) (g.K.Sink.given c.put.new.out)
    (record { t = c.args.t; level = c.args.level }) _ _ c.in_ok-put.ensures.ok
    (level_begun _ (pending c.args.self.now.signal) (pending c.put.new.self.signal) quiet (ap pending same))
    (subst IsWell (sym same) c.requires) (ap sender_of same)
