use Rattle.std.proofs.Common.{◌<◌, ◌+◌, ◌*◌, length, sym, arith}
use Rattle.dshot_frame.proofs.Bursts.{widths_at}
use Rattle.dshot_frame.proofs.judge.width_of.Goals as goal

pub returns : goal.returns
returns c =
    let within : 2 * c.args.i + 1 < length c.args.burst.now = omega arith in
    rw (c.at.ensures.edge, c.at-2.ensures.edge) (sym (widths_at c.args.burst.now c.args.i within))
