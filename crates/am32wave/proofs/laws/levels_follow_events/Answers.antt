use Rattle.am32wave.proofs.Gates.{levels_follow}
use Rattle.am32wave.proofs.laws.levels_follow_events.Goals as goal

pub returns : goal.returns
returns c before m = levels_follow before m
