use Rattle.std.proofs.Common.{arith}
use Rattle.gcr_reply.proofs.Replies.{reply_of-tells, same_reply, tells}
use Rattle.gcr_reply.proofs.reply.reply_bits.Goals as goal

pub returns : goal.returns
returns c =
    let told =
    tells c.payload.result c.gcr.result c.line_bits.result c.args.period_us (omega arith) c.payload.ensures c.gcr.ensures.groups c.line_bits.ensures in
    record {
      tells = told;
      only = λ bits reply. same_reply bits c.line_bits.result c.args.period_us reply told;
      value = same_reply c.line_bits.result _ c.args.period_us told (reply_of-tells c.args.period_us);
    }
