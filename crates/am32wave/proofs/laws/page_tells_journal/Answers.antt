use Rattle.am32wave.proofs.PageTells.{page_told}
use Rattle.am32wave.proofs.laws.page_tells_journal.Goals as goal

pub returns : goal.returns
returns c a b h k e = page_told a b h k e
