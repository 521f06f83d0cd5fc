use Rattle.cspf_book.proofs.EffectiveLinks.{effective_at}
use Rattle.cspf_book.proofs.Figures.{nothing_held}
use Rattle.cspf_book.proofs.laws.effective_databases.Goals as goal

pub returns-clause-links : goal.returns-clause-links
returns-clause-links c = effective_at

pub returns-clause-none : goal.returns-clause-none
returns-clause-none c = nothing_held
