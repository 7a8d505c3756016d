use Rattle.esc_laws.proofs.refused.Replies.{reply_windows_refuse}
use Rattle.esc_laws.proofs.shown.reply_windows_refuse.Goals as goal

pub returns : goal.returns
returns c = reply_windows_refuse
