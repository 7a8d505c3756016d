use Rattle.std.proofs.Common.{refl}
use Rattle.fourway_packet.specs.Cut.{unfinished_behind}
use Rattle.fourway_packet.proofs.packets.Packets.new.Goals as goal

pub returns-in-Ok-clause-taken : goal.returns-in-Ok-clause-taken
unfolding unfinished_behind
returns-in-Ok-clause-taken c = record { part_is = c.new.ensures.none; newest_is = refl }
