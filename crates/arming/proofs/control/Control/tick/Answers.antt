use Rattle.std.proofs.Common.{◌≡◌, ap}
use Rattle.arming.specs.Kept.{Kept}
use Rattle.arming.proofs.TickTies.{tick_stands}
use Rattle.arming.proofs.control.Control.tick.Goals as goal

pub returns-clause-stands : goal.returns-clause-stands
returns-clause-stands c =
    let demand_is : c.self.inside.demand ≡ c.args.self.now.demand = ap (λ (k : Kept). k.demand) c.self.view_is in
    λ t back at marks s.
    rw (c.apply.ensures.kept, c.answer-answer.ensures, c.decide-decision.ensures.decision, demand_is)
    (tick_stands c.args.self.now back t c.args.n c.args.marks.0 at c.requires marks s)
