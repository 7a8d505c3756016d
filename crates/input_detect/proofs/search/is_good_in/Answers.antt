use Rattle.std.proofs.Common.{rules, ◌≡◌, true, sym}
use Rattle.input_detect.specs.Detect.{fits}
use Rattle.input_detect.proofs.Exclusive.{one_mode}
use Rattle.input_detect.proofs.search.is_good_in.Goals as goal

pub returns-in-Good-clause-exclusive : goal.returns-in-Good-clause-exclusive
returns-in-Good-clause-exclusive c =
    let good : true ≡ fits c.args.mode c.args.burst.now c.args.servo.now = search rules in
    λ other t k. one_mode c.args.mode other c.args.burst.now c.args.servo.now (sym good) k
