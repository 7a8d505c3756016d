use Rattle.esc_laws.proofs.refused.Replies.{replies_refuse}
use Rattle.esc_laws.proofs.shown.replies_refuse.Goals as goal

pub returns : goal.returns
returns c = replies_refuse
