use Rattle.esc_laws.proofs.allowed.Calls.{calls_begin}
use Rattle.esc_laws.proofs.shown.calls_begin.Goals as goal

pub returns : goal.returns
returns c = calls_begin
