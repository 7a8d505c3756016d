use Rattle.std.proofs.Common.{refl, sym}
use Rattle.edge_capture.proofs.Stable.{burst_before}
use Rattle.edge_capture.proofs.capture.Capture.arm.Goals as goal

pub returns-clause-burst : goal.returns-clause-burst
returns-clause-burst c = λ handed a. record { armed = refl; burst_is = rw (c.clear.ensures) (sym (burst_before handed _ _ a)) }
