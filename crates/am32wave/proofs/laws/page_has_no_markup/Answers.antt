use Rattle.am32wave.proofs.Markup.{no_markup}
use Rattle.am32wave.proofs.laws.page_has_no_markup.Goals as goal

pub returns : goal.returns
returns c s traced moments from to all = no_markup s traced moments from to all
