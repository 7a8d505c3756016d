use Rattle.std.proofs.Common.{refl, sym, ◌∙◌}
use Rattle.esc_core.proofs.Taking.{answered, unanswered, untaken}
use Rattle.esc_core.proofs.serial.Serial.take.Goals as goal

pub returns-then-waiting-eq0-clause-takes : goal.returns-then-waiting-eq0-clause-takes
returns-then-waiting-eq0-clause-takes g c =
    rw (← c.self.view_is)
    (untaken c.args.armed c.args.t.0 _ (g.D.FlashDev.told c.args.dev.now) (sym c.waiting.ensures.waiting ∙ c.if-waiting-eq0.true))

pub returns-in-None-clause-takes : goal.returns-in-None-clause-takes
returns-in-None-clause-takes g c =
    rw (← c.self.view_is)
    (unanswered c.args.armed c.args.t.0 _ _ (g.D.FlashDev.told c.args.dev.now) c.take.result c.take.ensures.packet c.in-None.is c.take.ensures.queue refl refl)

pub returns-in-Some-clause-takes : goal.returns-in-Some-clause-takes
returns-in-Some-clause-takes g c =
    rw (← c.self.view_is, c.packet_note.ensures.note)
    (answered c.args.armed c.args.t.0 _ _ (g.D.FlashDev.told c.args.dev.now) (g.D.FlashDev.told c.answer-reply.new.dev) c.in-Some.packet c.answer-reply.result
    c.take.result c.take.ensures.packet c.in-Some.is c.take.ensures.queue c.answer-reply.ensures.cmd c.answer-reply.ensures.addr
    c.answer-reply.ensures.answered c.answer-reply.ensures.session c.reply_bytes-self-inside.ensures c.answer-reply.ensures.no_fewer
    c.answer-reply.ensures.failed)
