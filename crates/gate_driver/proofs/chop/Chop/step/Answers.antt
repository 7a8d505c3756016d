use Rattle.gate_driver.proofs.Programs.{chop_keeps, has_chopped, off_times_of, dead_time_of, one_access_of, no_time_of, dead_safe_of}
use Rattle.gate_driver.proofs.chop.Chop.step.Goals as goal

pub returns-clause-chops : goal.returns-clause-chops
returns-clause-chops c leg e = rw (c.act.ensures.bank_is, e) (has_chopped leg c.args.gates.now c.args.regs.now)

pub returns-clause-off_times : goal.returns-clause-off_times
returns-clause-off_times c =
    off_times_of c.args.gates.now c.act.new.gates c.args.regs.now c.act.new.regs _ _ _
    (chop_keeps c.args.self.now c.args.gates.now c.args.regs.now) c.act.ensures

pub returns-clause-dead_time : goal.returns-clause-dead_time
returns-clause-dead_time c =
    dead_time_of c.args.gates.now c.act.new.gates c.args.regs.now c.act.new.regs _ _ _
    (chop_keeps c.args.self.now c.args.gates.now c.args.regs.now) c.act.ensures

pub returns-clause-dead_safe : goal.returns-clause-dead_safe
returns-clause-dead_safe c =
    dead_safe_of c.args.gates.now c.act.new.gates c.args.regs.now c.act.new.regs _ _ _
    (chop_keeps c.args.self.now c.args.gates.now c.args.regs.now) c.act.ensures

pub returns-clause-one_access : goal.returns-clause-one_access
returns-clause-one_access c =
    one_access_of c.args.gates.now c.act.new.gates c.args.regs.now c.act.new.regs _ _ _
    (chop_keeps c.args.self.now c.args.gates.now c.args.regs.now) c.act.ensures

pub returns-clause-no_time : goal.returns-clause-no_time
returns-clause-no_time c =
    no_time_of c.args.gates.now c.act.new.gates c.args.regs.now c.act.new.regs _ _ _ (chop_keeps c.args.self.now c.args.gates.now c.args.regs.now) c.act.ensures
