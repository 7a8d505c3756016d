use Rattle.std.proofs.Common.{◌≡◌, not, refl}
use Rattle.am32csv.proofs.Changes.{one_change, other_level}
use Rattle.am32csv.proofs.capture.Capture.write.Goals as goal

pub returns-in-Ok-clause-goes_on : goal.returns-in-Ok-clause-goes_on
returns-in-Ok-clause-goes_on g c =
    let other : c.args.level ≡ not c.args.self.now.written = other_level c.args.level c.args.self.now.written c.if-level-self.false in
    one_change c.args.self.now _ (g.K.Sink.given c.args.out.now) (g.K.Sink.given c.put.new.out) c.args.t c.args.level c.in-Ok.ensures.ok other refl
