use Rattle.gcr_reply.proofs.Replies.{carries_exactly, carries_none, changes_small, low_bits}
use Rattle.gcr_reply.proofs.line.unline.Goals as goal

pub returns-then-bits-ne0 : goal.returns-then-bits-ne0
returns-then-bits-ne0 c = carries_none c.args.bits c.if-bits-ne0.true

pub word_of_gcr-requires : goal.word_of_gcr-requires
word_of_gcr-requires c = changes_small c.args.bits (low_bits c.args.bits c.if-bits-ne0.false)

pub returns : goal.returns
returns c = carries_exactly c.args.bits c.word_of_gcr.result (low_bits c.args.bits c.if-bits-ne0.false) c.word_of_gcr.ensures
