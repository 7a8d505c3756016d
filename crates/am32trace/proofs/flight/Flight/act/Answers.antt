use Rattle.std.proofs.Common.{refl}
use Rattle.am32trace.specs.declared.action.Action.TheVariants as action
use Rattle.am32trace.proofs.Flying.{no_edge_comp, no_edge_stall, acts, sets_only, same_line, on_ok}
use Rattle.am32trace.proofs.flight.Flight.act.Goals as goal

pub put_other-requires-clause-other : goal.put_other-requires-clause-other
put_other-requires-clause-other g c = no_edge_comp c.args.t c.in-Hold.level

pub put_other-requires-in-Stall-clause-other : goal.put_other-requires-in-Stall-clause-other
put_other-requires-in-Stall-clause-other g c = no_edge_stall c.args.t c.in-Stall.n

pub returns-in-Ok : goal.returns-in-Ok
returns-in-Ok g c =
    acts c.args.self.now c.reach.new.self c.set.new.self _ _ _ _ c.args.t.0 c.args.action c.in_ok-reach.ensures.goes_on
    (sets_only c.reach.new.self c.set.new.self _ _ _ c.in-Ok.ensures)

pub returns-in-Hold : goal.returns-in-Hold
returns-in-Hold g c =
    rw c.in-Hold.is
    (on_ok c.put_other.result _ _
    (λ x. acts c.args.self.now c.reach.new.self c.put_other.new.self _ _ _ _ c.args.t.0 (action.Hold c.in-Hold.level) c.in_ok-reach.ensures.goes_on
    (same_line c.reach.new.self _ c.put_other.new.self _ _ _ _ refl refl c.in_ok-reach.ensures.goes_on.well x))
    c.put_other.ensures)
