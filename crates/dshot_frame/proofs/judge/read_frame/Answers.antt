use Rattle.dshot_frame.proofs.Readings.{word_good, word_bad}
use Rattle.dshot_frame.proofs.judge.read_frame.Goals as goal

pub returns-then-word-checksum-clause-said : goal.returns-then-word-checksum-clause-said
returns-then-word-checksum-clause-said c = λ bits n w.
    word_bad c.args.inverted c.args.word c.checksum.result bits n w c.checksum.ensures.value c.if-word-checksum.true

pub returns-clause-said : goal.returns-clause-said
returns-clause-said c = λ bits n w. word_good c.args.inverted c.args.word c.checksum.result bits n w c.checksum.ensures.value c.if-word-checksum.false
