use Rattle.std.proofs.Common.{◌++◌, List, ◌∙◌, ap}
use Rattle.am32wave.specs.declared.scene.Scene.{Scene}
use Rattle.am32wave.specs.declared.wire.Wire.{Wire}
use Rattle.am32wave.specs.Pieces.{stamp_text, text}
use Rattle.am32wave.specs.Wave.{declarations, values}
use Rattle.am32wave.specs.Wires.{wires_of}
use Rattle.am32wave.proofs.Parts.{head_of}
use Rattle.am32wave.proofs.drawing.push_wave_head.Goals as goal

pub returns-clause-text : goal.returns-clause-text
returns-clause-text c =
    head_of c.args.page.now.items c.push.new.self.items c.push_declarations.new.page.items c.push-2.new.self.items c.push-3.new.self.items
    c.push-4.new.self.items c.push_values.new.page.items c.push-5.new.self.items _ _ _ _ _ _ _ _ (ap stamp_text c.from.ensures) c.requires.empty c.push.ensures.items
    (c.push_declarations.ensures.text ∙ ap (λ (ws : List Wire). text c.push.new.self.items ++ declarations 33 ws) c.wires_of.ensures.wires)
    c.push-2.ensures.items c.push-3.ensures.items c.push-4.ensures.items
    (c.push_values.ensures.text
    ∙ ap (λ (ws : List Wire). text c.push-4.new.self.items ++ values 33 c.new.result ws) c.wires_of-2.ensures.wires
    ∙ ap (λ (s : Scene). text c.push-4.new.self.items ++ values 33 s (wires_of c.args.is_traced)) c.new.ensures)
    c.push-5.ensures.items
