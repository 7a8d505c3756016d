use Rattle.am32wave.proofs.Gates.{gates_follow}
use Rattle.am32wave.proofs.laws.gates_follow_notes.Goals as goal

pub returns : goal.returns
returns c before m x = gates_follow before m x
