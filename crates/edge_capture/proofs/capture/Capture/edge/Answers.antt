use Rattle.std.proofs.Common.{sym, ◌∙◌}
use Rattle.edge_capture.proofs.Told.{handed_heard, handed_deaf}
use Rattle.edge_capture.proofs.capture.Capture.edge.Goals as goal

pub returns-then-hears-clause-burst : goal.returns-then-hears-clause-burst
returns-then-hears-clause-burst c = λ handed r h.
    rw (c.push.ensures) (rw (← c.self.view_is) at (handed_heard c.args.self.now handed _ r h (sym c.hears.ensures ∙ c.if-hears.true)))

pub returns-else-hears-clause-burst : goal.returns-else-hears-clause-burst
returns-else-hears-clause-burst c = λ handed r h. handed_deaf c.args.self.now handed _ r h (sym c.hears.ensures ∙ c.if-hears.false)
