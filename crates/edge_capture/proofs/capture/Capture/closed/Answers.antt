use Rattle.std.proofs.Common.{◌≡◌, true, sym, ◌∙◌}
use Rattle.edge_capture.specs.Window.{window_closed}
use Rattle.edge_capture.proofs.Stable.{handed_settled}
use Rattle.edge_capture.proofs.capture.Capture.closed.Goals as goal

pub returns-then-self-clause-settled : goal.returns-then-self-clause-settled
returns-then-self-clause-settled c = λ handed e h over le.
    let armed : c.args.self.now.armed ≡ true = rw (← c.self.view_is) c.if-self.true in
    let closed : window_closed c.args.self.now c.args.t.0 ≡ true = rw armed (sym c.is_over.ensures ∙ over) in
    handed_settled c.args.self.now handed e c.args.t.0 h closed le
