use Rattle.std.proofs.Common.{◌≡◌, true, false, sym, subst, ◌∙◌, refl, arith, rules, inl}
use Rattle.std.proofs.lemmas.Grind.{common_steps}
use Rattle.interrupt_machine.specs.Open.{innermost, IsAbove, due_now}
use Rattle.interrupt_machine.specs.Running.{Running}
use Rattle.interrupt_machine.proofs.Waiting.{entry_logged, entry_masked}
use Rattle.interrupt_machine.proofs.OwnLeft.{entry_spends}
use Rattle.interrupt_machine.proofs.OpenKinds.{entry_above}
use Rattle.interrupt_machine.proofs.machine.Machine.enter.Goals as goal

pub push-requires-2 : goal.push-requires-2
push-requires-2 g c =
    subst (λ (m : Running g.row.F.Denot). IsAbove (innermost m.open_kinds) c.args.kind) (sym c.self.view_is)
    (entry_above c.args.self.now.nest c.args.self.now.open_kinds (due_now (g.F.Firmware.waits c.args.self.now.firmware) c.args.regs.now) c.args.kind
    c.requires.chosen)

pub returns : goal.returns
returns g c = λ flash.
    let down : c.entered.new.self.masked ≡ false = rw c.entered.ensures (entry_masked c.args.regs.now c.args.kind ∙ c.requires.unmasked) in
    rw (← c.self.view_is) (record {
      turn = inl (
        c.args.kind,
        record {
          unmasked = c.requires.unmasked;
          chosen = rw (← c.self.view_is) at c.requires.chosen;
          entered = c.enter.ensures.came;
          stack_is = c.push-2.ensures;
          regs_are = c.entered.ensures;
          notes_are = first_of (search rules, grind (arith, common_steps));
        },
        refl,
      );
      nest = refl;
      mask = λ up. absurd (let z : true ≡ false = sym up ∙ down in cc);
      access = first_of (search rules, grind (arith, common_steps));
      in_range = first_of (search rules, grind (arith, common_steps));
      own_steps = entry_spends g.F.Firmware.left c.self.inside.firmware c.enter.new.self c.args.kind c.self.inside.stack c.push-2.new.self
          c.push-2.ensures c.enter.ensures.most c.enter.ensures.others;
      mask_spent = record {
        at_most = λ up. absurd (let z : true ≡ false = sym up ∙ down in cc);
        fewer = λ was up. absurd (let z : true ≡ false = sym up ∙ down in cc);
      };
      response = entry_logged c.self.inside.nest _ _ c.args.regs.now.masked c.entered.new.self.masked c.self.inside.stack c.push-2.new.self _ _ c.args.kind
          c.requires.unmasked down c.push-2.ensures (rw (← c.self.view_is) at c.requires.chosen);
    })
