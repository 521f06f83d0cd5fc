use Rattle.std.proofs.Common.{refl, arith}
use Rattle.std.proofs.lemmas.Result.{IfOk-weaker}
use Rattle.csv.specs.Records.{fields_of}
use Rattle.cspf_book_run.specs.BookRows.{book_row_of}
use Rattle.cspf_book_run.specs.declared.row_name.RowName.TheVariants as name
use Rattle.cspf_book_run.proofs.BookRowLemmas.{readable_row}
use Rattle.cspf_book_run.proofs.OutOfMemory.{said_with, unread_out}
use Rattle.cspf_book_run.proofs.book_rows.BookRows.answer_or_refuse.Goals as goal

pub line_or_refusal-requires-clause-row : goal.line_or_refusal-requires-clause-row
line_or_refusal-requires-clause-row g c = rw c.in-Ok.ensures (readable_row (fields_of c.args.fields.now))

pub returns-in-Ok-clause-answered : goal.returns-in-Ok-clause-answered
returns-in-Ok-clause-answered g c =
    IfOk-weaker c.line_or_refusal.result _ _ (λ line lead. record { lead = lead; counts = record { rows = c.line_or_refusal.ensures.read; others = c.line_or_refusal.ensures.counts } })
    (rw c.in-Ok.ensures at c.line_or_refusal.ensures.answered)

pub returns-in-Err-clause-answered : goal.returns-in-Err-clause-answered
returns-in-Err-clause-answered g c =
    said_with c.refuse.result _ _ _ _ c.refuse.ensures.line c.refuse.ensures.open c.refuse.ensures.refused
    (λ line is opens refused. record {
      lead =
          unread_out g.S.Keeps.spec (fields_of c.args.fields.now) c.args.place c.args.self.now.rows c.args.self.now.rows c.refuse.new.self.rows name.Row line.items is opens c.refuse.ensures.sink c.refuse.ensures.answers
          refused (book_row_of (fields_of c.args.fields.now)) refl refl;
      counts = record {
        rows = c.refuse.ensures.read;
        others = record { count = omega (arith, c.refuse.ensures.few); answers = omega (arith, c.refuse.ensures.answers); refused = omega (arith, refused) };
      };
    })
