use Rattle.cspf_journal.proofs.JournalSteps.{finds_counts}
use Rattle.cspf_journal.proofs.laws.readings_find_what_was_counted.Goals as goal

pub returns : goal.returns
returns c = finds_counts
