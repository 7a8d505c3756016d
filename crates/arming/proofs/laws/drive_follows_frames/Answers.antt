use Rattle.arming.proofs.DriveFollows.{drive_follows}
use Rattle.arming.proofs.laws.drive_follows_frames.Goals as goal

pub returns : goal.returns
returns c = drive_follows
