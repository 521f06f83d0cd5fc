use Rattle.cspf_book.proofs.Figures.{figures_fall}
use Rattle.cspf_book.proofs.laws.figures_never_rise.Goals as goal

pub returns : goal.returns
returns c = figures_fall
