use Rattle.esc_base.proofs.PeriodLaws.{edges-counted}
use Rattle.esc_base.proofs.periods.edges_are_counted.Goals as goal

pub returns : goal.returns
returns c = edges-counted
