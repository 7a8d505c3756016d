use Rattle.esc_laws.proofs.FrameReplied.{frame_is_replied}
use Rattle.esc_laws.proofs.signal_laws.frame_is_replied.Goals as goal

pub returns : goal.returns
returns c = frame_is_replied
