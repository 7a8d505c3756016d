use Rattle.esc_base.specs.Flash.{erased, programmed}
use Rattle.esc_base.proofs.OutsideLaws.{on_err}
use Rattle.settings_block.specs.Block.{block_of}
use Rattle.settings_block.specs.Stored.{settings_address, settings_page}
use Rattle.settings_block.proofs.Saved.{below_erased, map_map}
use Rattle.settings_block.proofs.stored.save.Goals as goal

pub returns-in_err-program-clause-below : goal.returns-in_err-program-clause-below
returns-in_err-program-clause-below g c =
    on_err _ (below_erased (g.D.FlashDev.told c.args.dev.now).bytes (g.D.FlashDev.told c.erase.new.self).bytes (g.D.FlashDev.told c.program.new.self).bytes _
    c.in_ok-erase.ensures.erased c.in_err-program.ensures.within (g.met.D.FlashDev.whole c.args.dev.now))

pub returns-clause-saved : goal.returns-clause-saved
returns-clause-saved g c =
    rw (c.in_ok-program.ensures.programmed, c.in_ok-erase.ensures.erased, c.write_block.ensures.block)
    (map_map (λ cells. programmed cells settings_address (block_of c.args.s.now)) (λ cells. erased cells settings_page) (g.D.FlashDev.told c.args.dev.now).bytes)
