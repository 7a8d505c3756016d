use Rattle.arming.proofs.SilenceEnds.{silence_ends}
use Rattle.arming.proofs.laws.silence_ends_drive.Goals as goal

pub returns : goal.returns
returns c = silence_ends
