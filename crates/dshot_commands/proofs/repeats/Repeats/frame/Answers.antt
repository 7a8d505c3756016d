use Rattle.std.proofs.Common.{◌≡◌, ◌∙◌, ap}
use Rattle.dshot_commands.specs.Repeats.{run_after, Run}
use Rattle.dshot_commands.proofs.Runs.{acts_counted, counts_more}
use Rattle.dshot_commands.proofs.repeats.Repeats.frame.Goals as goal

pub returns-clause-counts : goal.returns-clause-counts
returns-clause-counts c = λ frames counts. rw c.count.ensures (counts_more c.args.self.now frames c.args.value c.args.still counts)

pub returns-clause-acts : goal.returns-clause-acts
returns-clause-acts c =
    let run_is : c.self.inside.frames ≡ (run_after c.args.self.now c.args.value c.args.still).frames =
    ap (λ (run : Run). run.frames) (c.self.view_is ∙ c.count.ensures) in
    λ frames counts. rw (c.after.ensures.act, run_is) (acts_counted c.args.self.now frames c.args.value c.args.still counts)
