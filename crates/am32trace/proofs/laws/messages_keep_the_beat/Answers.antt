use Rattle.am32trace.proofs.Trains.{counts_beats, has_as_many, each_at_its_beat}
use Rattle.am32trace.proofs.laws.messages_keep_the_beat.Goals as goal

pub returns-clause-counts : goal.returns-clause-counts
returns-clause-counts c = counts_beats

pub returns-clause-as_many : goal.returns-clause-as_many
returns-clause-as_many c = has_as_many

pub returns-clause-each : goal.returns-clause-each
returns-clause-each c = each_at_its_beat
