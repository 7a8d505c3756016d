use Rattle.std.proofs.Common.{refl, Err}
use Rattle.fourway_packet.specs.declared.ack.Ack.TheVariants.{WrongCrc}
use Rattle.fourway_packet.proofs.answering.answer.Goals as goal

pub returns-in-BadCrc-clause-answered : goal.returns-in-BadCrc-clause-answered
returns-in-BadCrc-clause-answered g c =
    rw c.in-BadCrc.is
    (record { outcome = Err WrongCrc; comes = (refl, refl); params = c.reply_to-in-BadCrc.ensures.params; ack = c.reply_to-in-BadCrc.ensures.ack })
