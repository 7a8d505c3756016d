use Rattle.am32wave.proofs.Parts.{page_of}
use Rattle.am32wave.proofs.page.push_page_head.Goals as goal

pub returns-clause-text : goal.returns-clause-text
returns-clause-text c =
    page_of c.args.page.now.items c.push.new.self.items c.push-2.new.self.items c.push-3.new.self.items c.push_all.new.page.items _ _ _ _ _
    c.requires.empty c.push.ensures.items c.push-2.ensures.items c.push-3.ensures.items c.push_all.ensures c.stretch_line.ensures.text
