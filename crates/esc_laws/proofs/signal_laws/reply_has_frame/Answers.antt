use Rattle.esc_laws.proofs.FrameReplied.{reply_has_frame}
use Rattle.esc_laws.proofs.signal_laws.reply_has_frame.Goals as goal

pub returns : goal.returns
returns c = reply_has_frame
