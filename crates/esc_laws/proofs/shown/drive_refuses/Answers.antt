use Rattle.esc_laws.proofs.refused.Drive.{drive_refuses}
use Rattle.esc_laws.proofs.shown.drive_refuses.Goals as goal

pub returns : goal.returns
returns c = drive_refuses
