use Rattle.std.proofs.Common.{sym}
use Rattle.dshot_frame.proofs.Bursts.{step_between}
use Rattle.dshot_frame.proofs.judge.step_to.Goals as goal

pub returns : goal.returns
returns c = rw (c.at.ensures.edge, c.at-2.ensures.edge) (sym (step_between c.args.burst.now c.args.i c.requires.edges c.requires.after_first c.requires.bit))
