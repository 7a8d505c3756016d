use Rattle.std.proofs.Common.{[], sym, ◌∙◌, refl}
use Rattle.esc_core.proofs.Bounds.{core_step-stray, core_step-goes, core_asked-stray, core_asked-goes, counted_asked}
use Rattle.esc_core.proofs.state.Core.core_step.Goals as goal

pub returns-then-is_stray-clause-made : goal.returns-then-is_stray-clause-made
returns-then-is_stray-clause-made g c =
    let stray = sym c.is_stray.ensures ∙ c.if-is_stray.true in
    record {
      answers = [];
      stepped = rw (core_step-stray c.args.kind [] c.args.self.now c.args.regs.now stray)
          (record { core_is = c.shut.ensures; bank_is = c.write.ensures; notes_are = c.no_note.ensures; over_is = refl });
      flash_is = rw (core_asked-stray c.args.kind c.args.self.now c.args.regs.now [] stray) refl;
    }

pub returns-clause-made : goal.returns-clause-made
returns-clause-made g c =
    let goes = sym c.is_stray.ensures ∙ c.if-is_stray.false in
    let made = c.kind_step.ensures.made in
    record {
      answers = made.answers;
      stepped = rw (core_step-goes c.args.kind made.answers c.args.self.now c.args.regs.now goes, ← c.count_down.ensures) made.stepped;
      flash_is = rw (
        core_asked-goes c.args.kind c.args.self.now c.args.regs.now made.answers goes,
        ← counted_asked c.args.kind c.args.self.now c.args.regs.now made.answers,
        ← c.count_down.ensures,
      )
          made.flash_is;
    }
