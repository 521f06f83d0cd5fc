use Rattle.cspf_rows.proofs.JournalSteps.{whole_read, many_read}
use Rattle.cspf_rows.proofs.journal.whole.read_journal.Goals as goal

pub returns-clause-whole : goal.returns-clause-whole
returns-clause-whole g c =
    (whole_read g.R.Read.remaining c.new-journal.result (g.R.Read.remaining c.args.reader) c.read_whole.result c.new-journal.ensures.none c.read_whole.ensures.whole).0

pub returns-clause-few : goal.returns-clause-few
returns-clause-few g c =
    (whole_read g.R.Read.remaining c.new-journal.result (g.R.Read.remaining c.args.reader) c.read_whole.result c.new-journal.ensures.none c.read_whole.ensures.whole).1

pub returns-clause-too_many : goal.returns-clause-too_many
returns-clause-too_many g c = λ refused. many_read (g.R.Read.remaining c.args.reader) (c.read_whole.ensures.too_many refused _ c.new-journal.ensures.none)
