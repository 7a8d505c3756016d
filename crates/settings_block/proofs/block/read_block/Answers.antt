use Rattle.settings_block.proofs.Faults.{sound_block, sound_range}
use Rattle.settings_block.proofs.Written.{block_same}
use Rattle.settings_block.proofs.block.read_block.Goals as goal

pub returns-clause-in_range : goal.returns-clause-in_range
returns-clause-in_range c = rw c.settings_in.ensures (sound_range c.args.b.now.0 (sound_block c.args.b.now.0 c.in_ok-check.ensures.ok))

pub returns-clause-inverse : goal.returns-clause-inverse
returns-clause-inverse c = rw c.settings_in.ensures (block_same c.args.b.now.0 (sound_block c.args.b.now.0 c.in_ok-check.ensures.ok))
