use Rattle.std.proofs.Common.{◌∙◌, ap, arith}
use Rattle.std.proofs.lemmas.List.Elements.{All-push}
use Rattle.arrayvec.specs.ArrayVec.{array_vec_len}
use Rattle.am32wave.specs.Pieces.{Fits}
use Rattle.am32wave.proofs.Parts.{differs, same, changed, unchanged, none_left, no_changes}
use Rattle.am32wave.proofs.drawing.push_changes.Goals as goal
use Rattle.am32wave.proofs.drawing.push_changes.Goals.{then-value, else-value}

pub loop-i-preserved : goal.loop-i-preserved
loop-i-preserved c =
    let inv = c.loop-i.invariant in
    let list = c.args.wires.now in
    elim c.if-value.branch [
      | then-value w ↦
          let items = ap (λ p. p.items) w.page-is ∙ w.push.ensures.items in
          record {
            text = changed c.loop-i.page.items c.if-value.page.items c.args.plan.now.view c.args.plan.now.stretch c.args.t.0 c.args.before.now c.args.after.now list c.loop-i.i _ w.told.result
                c.value-value.result c.value.result _ c.loop-i-test.true w.told.ensures.text c.value-value.ensures c.value.ensures
                (differs _ _ w.if-value.true) items inv.text;
            fits = rw items (All-push Fits c.loop-i.page.items _ inv.fits w.told.ensures.fits);
            len = let e = ap (λ p. array_vec_len p) w.page-is in let f = w.push.ensures.len in omega arith;
          }
      | else-value w ↦
          record {
            text = unchanged c.loop-i.page.items c.if-value.page.items c.args.plan.now.view c.args.plan.now.stretch c.args.t.0 c.args.before.now c.args.after.now list c.loop-i.i _
                c.value-value.result c.value.result _
                c.loop-i-test.true c.value-value.ensures c.value.ensures (same _ _ w.if-value.false) (ap (λ p. p.items) w.page-is) inv.text;
            fits = rw w.page-is inv.fits;
            len = let e = ap (λ p. array_vec_len p) w.page-is in omega arith;
          }
    ]

pub returns-clause-text : goal.returns-clause-text
returns-clause-text c =
    none_left c.loop-i.page.items _ _ c.loop-i.invariant.text
    (no_changes c.args.plan.now.view c.args.plan.now.stretch c.args.t.0 c.args.before.now c.args.after.now c.args.wires.now c.loop-i.i c.loop-i-test.false)
