use Rattle.cspf_book.proofs.BaseBatches.{effective-after_changes}
use Rattle.cspf_book.proofs.laws.changes_of_effective_databases.Goals as goal

pub returns : goal.returns
returns c = effective-after_changes
