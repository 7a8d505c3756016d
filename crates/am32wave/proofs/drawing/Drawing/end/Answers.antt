use Rattle.am32wave.proofs.Scenes.{end_of}
use Rattle.am32wave.proofs.drawing.Drawing.end.Goals as goal

pub returns-clause-end : goal.returns-clause-end
returns-clause-end c p moments is =
    end_of p c.args.self.now.plan moments _ _ c.args.self.now.scene c.args.self.now.time.0 is.plan is.scene is.time c.push_late_entry.ensures.text
    c.push_tail.ensures.text
