use Rattle.gcr_reply.proofs.Periods.{payload_told, word_is}
use Rattle.gcr_reply.proofs.period.payload.Goals as goal

pub returns : goal.returns
returns c =
    rw (c.check_nibble.ensures, word_is c.twelve_bits-twelve.result c.twelve_bits-twelve.ensures.small)
    (payload_told c.twelve_bits-twelve.result c.args.period_us c.twelve_bits-twelve.ensures.small c.twelve_bits-twelve.ensures.told).1
