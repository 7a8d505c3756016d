use Rattle.std.proofs.Common.{sym, ◌∙◌, ap}
use Rattle.am32wave.specs.declared.view.View.{View}
use Rattle.am32wave.specs.Drawn.{head_in}
use Rattle.am32wave.proofs.drawing.Drawing.head.Goals as goal

pub returns-in-Page-clause-head : goal.returns-in-Page-clause-head
returns-in-Page-clause-head c =
    c.push_page_head.ensures.text ∙ ap (λ (v : View). head_in v c.args.self.now.plan.stretch c.args.self.now.plan.is_traced) (sym c.in-Page.is)
