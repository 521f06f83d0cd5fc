use Rattle.std.proofs.Common.{refl}
use Rattle.cspf_rows.proofs.JournalSteps.{given_none}
use Rattle.cspf_rows.proofs.journal.reader.JournalReader.new.Goals as goal

pub returns-clause-none : goal.returns-clause-none
returns-clause-none g c = given_none g.R.Read.remaining _ _ refl refl c.open_records.ensures.rows
