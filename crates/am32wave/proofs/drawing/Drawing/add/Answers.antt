use Rattle.std.proofs.Common.{sym, ◌∙◌, ap}
use Rattle.am32wave.specs.declared.scene.Scene.{Scene}
use Rattle.am32wave.specs.Scene.{with_moment}
use Rattle.am32wave.proofs.Scenes.{part_of, scene_more, newest_more}
use Rattle.am32wave.proofs.drawing.Drawing.add.Goals as goal

pub returns-clause-part : goal.returns-clause-part
returns-clause-part c p moments is =
    part_of p c.args.self.now.plan moments c.args.moment.now _ _ c.args.self.now.scene c.after-after.result c.args.self.now.time.0 c.time-time.result.0
    is.plan is.scene is.time c.time-time.ensures c.after-after.ensures c.push_entry.ensures.text c.push_moment.ensures.text

pub returns-clause-goes_on : goal.returns-clause-goes_on
returns-clause-goes_on c p moments is = record {
  plan = is.plan;
  scene = c.after-after.ensures ∙ ap (λ (s : Scene). with_moment s c.args.moment.now) is.scene ∙ sym (scene_more moments c.args.moment.now);
  time = c.time-time.ensures ∙ sym (newest_more 0 moments c.args.moment.now);
}
