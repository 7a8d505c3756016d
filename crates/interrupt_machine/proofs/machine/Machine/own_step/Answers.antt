use Rattle.std.proofs.Common.{◌≡◌, true, false, sym, ◌∙◌, refl, arith, rules, inr}
use Rattle.std.proofs.lemmas.Grind.{common_steps}
use Rattle.interrupt_machine.proofs.OpenKinds.{live_popped, some_kinds}
use Rattle.interrupt_machine.proofs.Waiting.{own_logged, back_logged}
use Rattle.interrupt_machine.proofs.OwnLeft.{more_spends, back_spends}
use Rattle.interrupt_machine.proofs.OwnSteps.{own_is, goes_on, went_back}
use Rattle.interrupt_machine.proofs.machine.Machine.own_step.Goals as goal

pub invariant_of-self : goal.invariant_of-self
invariant_of-self g c =
    live_popped (g.F.Firmware.left c.self.inside.firmware) (g.F.Firmware.left c.step-did.new.self) c.in-Some.kind c.self.inside.stack c.pop.new.self
    (sym c.in-Some.ensures) c.pop.ensures.outer c.pop.ensures.stack c.self.invariant c.step-did.ensures.others

pub returns-in-Return : goal.returns-in-Return
returns-in-Return g c =
    let none = rw (← c.self.view_is) at c.requires.none_enters in
    let down : c.step-did.new.regs.masked ≡ false = rw c.in-Return.is at c.step-did.ensures.back tt in
    rw (← c.self.view_is) (record {
      turn =
          inr
          (own_is g.F.Firmware.made g.F.Firmware.waits c.self.inside.nest c.self.inside.firmware c.step-did.new.self c.self.inside.stack c.pop.new.self
          c.args.regs.now c.step-did.new.regs _ _
          c.in-Some.kind c.step-did.result c.note_gates.new.notes.items c.note_own.new.notes.items c.gates-before.result.hi c.gates-before.result.lo
          none (sym c.in-Some.ensures) c.step-did.ensures.made c.step-did.ensures.access
          (went_back c.self.inside.stack c.pop.new.self c.in-Some.kind c.step-did.result _ c.pop.ensures.outer c.in-Return.is)
          c.gates-before.ensures.high c.gates-before.ensures.low c.note_gates.ensures.items c.note_own.ensures.items);
      nest = refl;
      mask = λ up. absurd (let z : true ≡ false = sym up ∙ down in cc);
      access = first_of (search rules, grind (arith, common_steps));
      in_range = c.note_own.ensures.in_range;
      own_steps = back_spends g.F.Firmware.left c.self.inside.firmware c.step-did.new.self c.in-Some.kind c.self.inside.stack c.pop.new.self
          (sym c.in-Some.ensures) c.pop.ensures.outer c.step-did.ensures.less c.step-did.ensures.others;
      mask_spent = record { at_most = c.step-did.ensures.mask_most; fewer = c.step-did.ensures.mask_less };
      response = back_logged c.self.inside.nest _ _ c.args.regs.now.masked c.step-did.new.regs.masked c.self.inside.stack c.pop.new.self _ _ c.in-Some.kind
          (sym c.in-Some.ensures) c.pop.ensures.outer down none
          (rw (← c.self.view_is) at c.requires.held) c.step-did.ensures.mask_most c.step-did.ensures.mask_less;
    })

pub returns-in_default-did : goal.returns-in_default-did
returns-in_default-did g c =
    let none = rw (← c.self.view_is) at c.requires.none_enters in
    rw (← c.self.view_is) (record {
      turn =
          inr
          (own_is g.F.Firmware.made g.F.Firmware.waits c.self.inside.nest c.self.inside.firmware c.step-did.new.self c.self.inside.stack c.self.inside.stack
          c.args.regs.now c.step-did.new.regs _ _
          c.in-Some.kind c.step-did.result c.note_gates.new.notes.items c.note_own.new.notes.items c.gates-before.result.hi c.gates-before.result.lo
          none (sym c.in-Some.ensures) c.step-did.ensures.made c.step-did.ensures.access
          (goes_on c.self.inside.stack c.in-Some.kind c.step-did.result _ (sym c.in-Some.ensures) c.in_default-did.is)
          c.gates-before.ensures.high c.gates-before.ensures.low c.note_gates.ensures.items c.note_own.ensures.items);
      nest = refl;
      mask = λ up. (some_kinds c.self.inside.stack c.in-Some.kind (sym c.in-Some.ensures), c.step-did.ensures.mask_some up);
      access = first_of (search rules, grind (arith, common_steps));
      in_range = c.note_own.ensures.in_range;
      own_steps = more_spends g.F.Firmware.left c.self.inside.firmware c.step-did.new.self c.in-Some.kind c.self.inside.stack
          (sym c.in-Some.ensures) c.step-did.ensures.less c.step-did.ensures.others;
      mask_spent = record { at_most = c.step-did.ensures.mask_most; fewer = c.step-did.ensures.mask_less };
      response = own_logged c.self.inside.nest _ _ c.args.regs.now.masked c.step-did.new.regs.masked c.self.inside.stack _ _ c.in-Some.kind
          (sym c.in-Some.ensures) none
          (rw (← c.self.view_is) at c.requires.held) c.step-did.ensures.mask_most c.step-did.ensures.mask_less;
    })
