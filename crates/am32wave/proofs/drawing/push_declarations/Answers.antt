use Rattle.std.proofs.Common.{arith}
use Rattle.std.proofs.lemmas.List.Elements.{All-push}
use Rattle.am32wave.specs.Pieces.{Fits}
use Rattle.am32wave.proofs.Parts.{declared, none_left, no_declarations}
use Rattle.am32wave.proofs.drawing.push_declarations.Goals as goal

pub loop-i-preserved : goal.loop-i-preserved
loop-i-preserved c =
    let inv = c.loop-i.invariant in
    record {
      text = declared c.loop-i.page.items c.push.new.self.items 33 c.args.wires.now c.loop-i.i _ _ c.loop-i-test.true c.push.ensures.items inv.text;
      fits = rw c.push.ensures.items (All-push Fits c.loop-i.page.items _ inv.fits (omega arith));
      len = omega arith;
    }

pub returns-clause-text : goal.returns-clause-text
returns-clause-text c =
    none_left c.loop-i.page.items _ _ c.loop-i.invariant.text (no_declarations 33 c.args.wires.now c.loop-i.i c.loop-i-test.false)
