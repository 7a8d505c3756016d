use Rattle.std.proofs.Common.{◌≡◌, ◌-◌, true, false, refl, sym, ◌∙◌, arith}
use Rattle.edge_capture.specs.Modes.{numbers}
use Rattle.am32trace.specs.Frames.{width_of}
use Rattle.am32trace.proofs.Edges.{none_left, begins_bit, ends_active}
use Rattle.am32trace.proofs.frame_out.FrameOut.next.Goals as goal
use Rattle.am32trace.proofs.frame_out.FrameOut.next.Goals.{then-self-eq0-via-then-self-eq0, then-self-eq0-via-else-self-eq0+then-self-eq0-2}

pub returns-then-self-eq0 : goal.returns-then-self-eq0
returns-then-self-eq0 c =
    let f = c.args.self.now in
    elim c.then-self-eq0.branch [
      | then-self-eq0-via-then-self-eq0 w ↦
          let none = none_left (numbers f.mode).bit (numbers f.mode).inverted f.wide f.begins.0 f.word f.has_begun f.left f.edges w.if-self-eq0.true in
          rw none refl
      | then-self-eq0-via-else-self-eq0+then-self-eq0-2 w ↦ let none : f.edges ≡ 0 = w.if-self-eq0-2.true in rw none refl
    ]

pub returns-then-self : goal.returns-then-self
returns-then-self c =
    let f = c.args.self.now in
    let begun : f.has_begun ≡ true = c.if-self.true in
    let width : c.from.result ≡ width_of (numbers f.mode).bit f.wide (f.left - 1) f.word = c.from.ensures ∙ c.width.ensures.exact in
    rw (begun, width, c.mode_numbers-inverted.ensures.table)
    (sym (ends_active (numbers f.mode).bit (numbers f.mode).inverted f.wide f.begins.0 f.word f.left f.edges (omega arith) (omega arith)))

pub returns-else-self : goal.returns-else-self
returns-else-self c =
    let f = c.args.self.now in
    let begun : f.has_begun ≡ false = c.if-self.false in
    rw (begun, c.mode_numbers-inverted.ensures.table)
    (sym (begins_bit (numbers f.mode).bit (numbers f.mode).inverted f.wide f.begins.0 f.word f.left f.edges (omega arith) (omega arith)))
