use Rattle.std.proofs.Common.{ℕ, sym, subst}
use Rattle.std.proofs.lemmas.Bool.{eqb-true, eq-eqb}
use Rattle.gcr_reply.specs.Reply.{ReplyBits}
use Rattle.library_example.proofs.tells_period.Goals as goal

pub returns : goal.returns
returns c = (
  λ same. subst (λ (bits : ℕ). ReplyBits bits c.args.period_us) (sym (eqb-true c.args.levels c.reply_bits.result same)) c.reply_bits.ensures.tells,
  λ told. eq-eqb c.args.levels c.reply_bits.result (c.reply_bits.ensures.only c.args.levels told),
)
