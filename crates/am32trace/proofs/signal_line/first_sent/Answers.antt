use Rattle.std.proofs.Common.{◌≡◌, ◌≤◌, ◌+◌, subst, arith}
use Rattle.am32trace.specs.Line.{left_of, IsShort}
use Rattle.am32trace.specs.Frames.{rest_of, first_edge}
use Rattle.am32trace.proofs.Begun.{frame_first, pulse_begun, later_edges}
use Rattle.am32trace.proofs.signal_line.first_sent.Goals as goal

pub returns-in-Frame-clause-adds : goal.returns-in-Frame-clause-adds
returns-in-Frame-clause-adds c =
    rw c.in-Frame.is (frame_first (first_edge c.args.mode c.args.t) (rest_of c.frame_at.result) (left_of c.after_edge.result) _
    c.frame_at.ensures.begins c.frame_at.ensures.sent c.after_edge.ensures.left)

pub returns-in-Frame-clause-within : goal.returns-in-Frame-clause-within
returns-in-Frame-clause-within c = λ period fits short.
    later_edges _ (c.args.t.0 + period) (rest_of c.frame_at.result) (left_of c.after_edge.result) (omega (arith, fits))
    c.frame_at.ensures.within c.after_edge.ensures.left

pub returns-in-Pulse-clause-adds : goal.returns-in-Pulse-clause-adds
returns-in-Pulse-clause-adds c =
    let short : c.in-Pulse.width ≤ 4294967296 = subst (IsShort 4294967296) c.in-Pulse.is c.requires.short in
    let sum : c.saturating_add.result ≡ c.args.t.0 + c.in-Pulse.width = omega (arith, c.saturating_add.ensures, short, c.requires.early) in
    rw (c.in-Pulse.is, sum) (pulse_begun (first_edge c.args.mode c.args.t) c.in-Pulse.width)
