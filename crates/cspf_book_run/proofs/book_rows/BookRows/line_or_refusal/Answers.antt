use Rattle.csv.specs.Records.{fields_of}
use Rattle.cspf_book_run.proofs.OutOfMemory.{answered_in, refused_out, said_with}
use Rattle.cspf_book_run.proofs.book_rows.BookRows.line_or_refusal.Goals as goal

pub returns-in-Ok-clause-answered : goal.returns-in-Ok-clause-answered
returns-in-Ok-clause-answered g c =
    answered_in g.S.Keeps.spec (fields_of c.args.fields.now) c.args.place c.args.row c.in-Ok.line.items c.args.self.now.rows c.line_of.new.self.rows c.in-Ok.ensures.answered

pub returns-in-Err-clause-answered : goal.returns-in-Err-clause-answered
returns-in-Err-clause-answered g c =
    said_with c.refuse.result _ _ _ _ c.refuse.ensures.line c.refuse.ensures.open c.refuse.ensures.refused
    (λ line is opens refused. refused_out g.S.Keeps.spec (fields_of c.args.fields.now) c.args.place c.args.self.now.rows c.line_of.new.self.rows c.refuse.new.self.rows c.name_of-name.result line.items is
    opens c.refuse.ensures.sink c.refuse.ensures.answers refused c.args.row c.name_of-name.ensures c.in-Err.ensures.lost)
