use Rattle.std.proofs.Common.{subst}
use Rattle.am32wave.specs.declared.run.Report.{Report}
use Rattle.am32wave.specs.Shown.{IsAfter}
use Rattle.am32wave.proofs.Shows.{drawn_more}
use Rattle.am32wave.proofs.run.Report.add.Goals as goal

pub returns-in-Drawn-clause-goes_on : goal.returns-in-Drawn-clause-goes_on
returns-in-Drawn-clause-goes_on c notes is =
    drawn_more c.in-Drawn.drawing c.add.new.self notes c.args.note.now c.add.ensures.plan
    (c.add.ensures.goes_on _ _ (subst (λ (r : Report). IsAfter r notes) c.in-Drawn.is is))
