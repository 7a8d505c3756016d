use Rattle.settings_block.proofs.stored.load.Goals as goal

pub returns-clause-loaded : goal.returns-clause-loaded
returns-clause-loaded g c = record { block = c.read.new.buf; len = c.read.auto.buf; read = c.in_ok-read.ensures.read; is = c.loaded_from.ensures.is }
