use Rattle.settings_block.proofs.Written.{read_back}
use Rattle.settings_block.proofs.block.write_block.Goals as goal

pub returns-clause-inverse : goal.returns-clause-inverse
returns-clause-inverse c = λ r. rw c.with_fields.ensures.written (read_back c.args.s.now c.with_fields.ensures.len r)
