use Rattle.std.proofs.Common.{◌≤◌}
use Rattle.esc_core.proofs.Bounds.{keeps}
use Rattle.esc_core.proofs.firmware.CoreFirmware.step.Goals as goal

pub returns : goal.returns
returns g c =
    let small : c.args.self.now.hold ≤ 8 = rw (← c.self.view_is) c.self.invariant in
    let k =
    keeps c.args.kind c.core_step.ensures.made.answers c.args.self.now c.args.regs.now c.core_step.result c.core_step.new.self c.core_step.new.regs
    c.requires.open small c.core_step.ensures.made.stepped in
    record {
      made = c.core_step.ensures.made;
      less = k.less;
      others = k.others;
      more = k.more;
      back = k.back;
      mask_some = k.mask_some;
      mask_most = k.mask_most;
      mask_less = k.mask_less;
      access = k.access;
      in_range = c.core_step.ensures.in_range;
    }
