use Rattle.std.proofs.Common.{◌-◌, drop, length, arith}
use Rattle.std.proofs.lemmas.List.{length-take, length-drop}
use Rattle.trace_text.proofs.Taking.{behind_if_ok, end_if_ok}
use Rattle.trace_text.proofs.held.take_behind.Goals as goal

pub returns-clause-gives : goal.returns-clause-gives
returns-clause-gives g c =
    let xs = c.args.buffer.now in
    let at = c.args.at in
    let room = length-take (length xs - at) (drop at xs) in
    let left = length-drop at xs in
    behind_if_ok c.take.result xs c.take.new.buf at (length xs - at) (g.S.Source.left c.args.src.now)
    (g.S.Source.left c.take.new.self) (omega arith) (omega arith) c.take.ensures.fits c.take.ensures.gives

pub returns-clause-end : goal.returns-clause-end
returns-clause-end g c =
    end_if_ok c.take.result c.take.new.buf (g.S.Source.left c.args.src.now) (g.S.Source.left c.take.new.self) c.take.ensures.gives c.take.ensures.end
