use Rattle.esc_laws.proofs.SentFrames.{sent_frame_is_read}
use Rattle.esc_laws.proofs.signal_laws.sent_frame_is_read.Goals as goal

pub returns : goal.returns
returns c = sent_frame_is_read
