use Rattle.std.proofs.Common.{◌≡◌, ◌-◌, true, drop, refl, sym, ◌∙◌, ap, arith}
use Rattle.edge_capture.specs.Modes.{numbers}
use Rattle.am32trace.proofs.Edges.{not_false, none_left, behind_bit}
use Rattle.am32trace.proofs.frame_out.FrameOut.after.Goals as goal

pub returns-then-self-eq0 : goal.returns-then-self-eq0
returns-then-self-eq0 c =
    let f = c.args.self in
    let e = none_left (numbers f.mode).bit (numbers f.mode).inverted f.wide f.begins.0 f.word f.has_begun f.left f.edges c.if-self-eq0.true in
    e ∙ sym (ap (drop 1) e)

pub returns : goal.returns
returns c =
    let f = c.args.self in
    let begun : f.has_begun ≡ true = not_false f.has_begun c.if-not-self.false in
    let apart : c.from.result ≡ (numbers f.mode).bit = c.from.ensures ∙ rw c.mode_numbers.ensures.table refl in
    let one_less : c.saturating_sub-edges.result ≡ f.edges - 1 = omega arith in
    rw (begun, apart, one_less) (behind_bit (numbers f.mode).bit (numbers f.mode).inverted f.wide f.begins.0 f.word f.left f.edges (omega arith))
