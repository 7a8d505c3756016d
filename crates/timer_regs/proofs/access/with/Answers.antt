use Rattle.std.proofs.Common.{◌<◌, ◌^◌, bit_or, arith}
use Rattle.std.proofs.lemmas.Nat.{or_lt}
use Rattle.timer_regs.proofs.access.with.Goals as goal

pub returns-clause-small : goal.returns-clause-small
returns-clause-small c = let l : bit_or c.args.word c.args.on < 2 ^ 3 = or_lt 3 c.args.word c.args.on (omega arith) (omega arith) in omega arith
