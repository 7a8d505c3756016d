use Rattle.gcr_reply.proofs.Table.{gcr_is, gcr_of-lt, bits_of-gcr_of}
use Rattle.gcr_reply.proofs.groups.gcr.Goals as goal

pub returns-clause-of_20_bits : goal.returns-clause-of_20_bits
returns-clause-of_20_bits c =
    rw (gcr_is c.args.word _ _ _ _ c.ranges.word.fits c.group_of.ensures c.group_of-2.ensures c.group_of-3.ensures c.group_of-4.ensures)
    (gcr_of-lt c.args.word)

pub returns-clause-groups : goal.returns-clause-groups
returns-clause-groups c =
    rw (gcr_is c.args.word _ _ _ _ c.ranges.word.fits c.group_of.ensures c.group_of-2.ensures c.group_of-3.ensures c.group_of-4.ensures)
    (bits_of-gcr_of c.args.word)
