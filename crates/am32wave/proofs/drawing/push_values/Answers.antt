use Rattle.std.proofs.Common.{arith}
use Rattle.std.proofs.lemmas.List.Elements.{All-push}
use Rattle.am32wave.specs.Pieces.{Fits}
use Rattle.am32wave.proofs.Parts.{valued, none_left, no_values}
use Rattle.am32wave.proofs.drawing.push_values.Goals as goal

pub loop-i-preserved : goal.loop-i-preserved
loop-i-preserved c =
    let inv = c.loop-i.invariant in
    record {
      text = valued c.loop-i.page.items c.push.new.self.items 33 c.args.scene.now c.args.wires.now c.loop-i.i _ c.width.result c.value.result _
          c.loop-i-test.true c.width.ensures.width c.value.ensures c.push.ensures.items inv.text;
      fits = rw c.push.ensures.items (All-push Fits c.loop-i.page.items _ inv.fits (let m = c.width.ensures.most in (omega arith, omega arith)));
      len = omega arith;
    }

pub returns-clause-text : goal.returns-clause-text
returns-clause-text c =
    none_left c.loop-i.page.items _ _ c.loop-i.invariant.text (no_values 33 c.args.scene.now c.args.wires.now c.loop-i.i c.loop-i-test.false)
