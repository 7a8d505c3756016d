use Rattle.esc_laws.proofs.DutyKept.{duty_is_kept}
use Rattle.esc_laws.proofs.drive_laws.duty_is_kept.Goals as goal

pub returns : goal.returns
returns c = duty_is_kept
