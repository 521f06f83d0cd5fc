use Rattle.cspf_rows.proofs.JournalParts.{one_journal}
use Rattle.cspf_rows.proofs.journal.laws.journals_are_one.Goals as goal

pub returns : goal.returns
returns c = one_journal
