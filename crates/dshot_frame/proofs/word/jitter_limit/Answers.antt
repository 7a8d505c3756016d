use Rattle.std.proofs.Common.{◌/◌, sym, ◌∙◌, arith}
use Rattle.edge_capture.specs.Modes.{numbers}
use Rattle.dshot_frame.proofs.Moved.{verdict_of-moved, verdict_of-sent}
use Rattle.dshot_frame.proofs.word.jitter_limit.Goals as goal

pub returns-clause-harmless : goal.returns-clause-harmless
returns-clause-harmless c =
    rw c.mode_numbers.ensures.table
    (λ s word moved h mv.
    verdict_of-moved c.args.mode ((numbers c.args.mode).bit / 16) s word moved h (omega arith) mv ∙ sym (verdict_of-sent c.args.mode s word h))
