use Rattle.esc_laws.proofs.Rests.{first_rested_tick}
use Rattle.esc_laws.proofs.signal_laws.first_rested_tick.Goals as goal

pub returns : goal.returns
returns c = first_rested_tick
