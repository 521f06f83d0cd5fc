use Rattle.std.proofs.lemmas.Result.{IfOk-weaker}
use Rattle.csv.specs.Records.{fields_of}
use Rattle.cspf_book_run.proofs.BookRowLemmas.{readable_row}
use Rattle.cspf_book_run.proofs.book_rows.BookRowsAnswering.answer.Goals as goal

pub line_of-requires-clause-row : goal.line_of-requires-clause-row
line_of-requires-clause-row g c = rw c.in_ok-row.ensures (readable_row (fields_of c.args.fields.now))

pub returns-clause-answered : goal.returns-clause-answered
returns-clause-answered g c =
    IfOk-weaker c.line_of.result _ _ (λ line lead. record { lead = lead; counts = record { rows = c.line_of.ensures.read; others = c.line_of.ensures.counts } })
    (rw c.in_ok-row.ensures at c.line_of.ensures.answered)
