use Rattle.gate_driver.proofs.Programs.{change_keeps, has_changed, spends, off_times_of, dead_time_of, one_access_of, no_time_of, dead_safe_of}
use Rattle.gate_driver.proofs.to_sector.ToSector.step.Goals as goal

pub returns-clause-changes : goal.returns-clause-changes
returns-clause-changes c = rw c.act.ensures.bank_is (has_changed c.args.self.now.at c.args.self.now c.args.gates.now c.args.regs.now)

pub returns-clause-spends : goal.returns-clause-spends
returns-clause-spends c = rw (c.act.ensures.answer_is, c.act.ensures.place_is) (spends c.args.self.now c.args.gates.now c.args.regs.now)

pub returns-clause-off_times : goal.returns-clause-off_times
returns-clause-off_times c =
    off_times_of c.args.gates.now c.act.new.gates c.args.regs.now c.act.new.regs _ _ _
    (change_keeps c.args.self.now c.args.gates.now c.args.regs.now) c.act.ensures

pub returns-clause-dead_time : goal.returns-clause-dead_time
returns-clause-dead_time c =
    dead_time_of c.args.gates.now c.act.new.gates c.args.regs.now c.act.new.regs _ _ _
    (change_keeps c.args.self.now c.args.gates.now c.args.regs.now) c.act.ensures

pub returns-clause-dead_safe : goal.returns-clause-dead_safe
returns-clause-dead_safe c =
    dead_safe_of c.args.gates.now c.act.new.gates c.args.regs.now c.act.new.regs _ _ _
    (change_keeps c.args.self.now c.args.gates.now c.args.regs.now) c.act.ensures

pub returns-clause-one_access : goal.returns-clause-one_access
returns-clause-one_access c =
    one_access_of c.args.gates.now c.act.new.gates c.args.regs.now c.act.new.regs _ _ _
    (change_keeps c.args.self.now c.args.gates.now c.args.regs.now) c.act.ensures

pub returns-clause-no_time : goal.returns-clause-no_time
returns-clause-no_time c =
    no_time_of c.args.gates.now c.act.new.gates c.args.regs.now c.act.new.regs _ _ _
    (change_keeps c.args.self.now c.args.gates.now c.args.regs.now) c.act.ensures
