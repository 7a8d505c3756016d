use Rattle.esc_laws.proofs.refused.Crossings.{crossed_turns_refuse}
use Rattle.esc_laws.proofs.shown.crossed_turns_refuse.Goals as goal

pub returns : goal.returns
returns c = crossed_turns_refuse
