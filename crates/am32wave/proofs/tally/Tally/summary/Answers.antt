use Rattle.am32wave.proofs.Parts.{pages_of}
use Rattle.am32wave.proofs.tally.Tally.summary.Goals as goal

pub returns-clause-text : goal.returns-clause-text
returns-clause-text c =
    pages_of c.args.page.now.items c.push_all.new.page.items c.push_all-2.new.page.items c.push_all-3.new.page.items c.push_all-4.new.page.items
    c.push_all-5.new.page.items _ _ _ _ _ _ _ _ _ _ c.requires.empty c.push_all.ensures c.push_all-2.ensures c.push_all-3.ensures c.push_all-4.ensures
    c.push_all-5.ensures c.frames.ensures.text c.bad_frames.ensures.text c.detections_and_armings.ensures.text c.losses.ensures.text
    c.commutations.ensures.text
