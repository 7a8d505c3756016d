use Rattle.fourway_packet.proofs.flash.save_block.Goals as goal

pub returns-clause-carried : goal.returns-clause-carried
returns-clause-carried g c = (c.nothing.ensures, (rw (← c.in-Some.ensures.block) c.in_ok-save-in-Some.ensures.saved))
