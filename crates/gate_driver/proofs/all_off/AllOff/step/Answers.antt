use Rattle.gate_driver.proofs.Programs.{all_off_keeps, one_access_of, no_time_of, dead_safe_of}
use Rattle.gate_driver.proofs.all_off.AllOff.step.Goals as goal

pub returns-clause-dead_safe : goal.returns-clause-dead_safe
returns-clause-dead_safe c =
    dead_safe_of c.args.gates.now c.act.new.gates c.args.regs.now c.act.new.regs _ _ _
    (all_off_keeps c.args.self.now c.args.gates.now c.args.regs.now) c.act.ensures

pub returns-clause-one_access : goal.returns-clause-one_access
returns-clause-one_access c =
    one_access_of c.args.gates.now c.act.new.gates c.args.regs.now c.act.new.regs _ _ _
    (all_off_keeps c.args.self.now c.args.gates.now c.args.regs.now) c.act.ensures

pub returns-clause-no_time : goal.returns-clause-no_time
returns-clause-no_time c =
    no_time_of c.args.gates.now c.act.new.gates c.args.regs.now c.act.new.regs _ _ _
    (all_off_keeps c.args.self.now c.args.gates.now c.args.regs.now) c.act.ensures
