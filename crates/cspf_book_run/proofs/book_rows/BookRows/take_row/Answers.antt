use Rattle.std.proofs.Common.{Ok}
use Rattle.std.proofs.lemmas.Result.{IfOk-weaker, on_err_weaker}
use Rattle.csv.specs.Records.{fields_of}
use Rattle.cspf_book_run.proofs.BookSteps.{base_row, base_lost}
use Rattle.cspf_book_run.proofs.OutOfMemory.{lost_same}
use Rattle.cspf_book_run.proofs.book_rows.BookRows.take_row.Goals as goal

pub returns-in-Base-clause-answered : goal.returns-in-Base-clause-answered
returns-in-Base-clause-answered g c =
    rw c.in-Base.is
    (IfOk-weaker c.take.result _ _
    (λ line lead. base_row g.S.Keeps.spec c.one_refusal.ensures.unfit c.args.self.now.rows c.take.new.self (fields_of c.args.fields.now) c.in-Base.row line.items lead)
    (rw c.of.ensures at c.take.ensures.answered))

pub returns-in-Base-clause-lost : goal.returns-in-Base-clause-lost
returns-in-Base-clause-lost g c =
    rw c.in-Base.is
    (on_err_weaker c.take.result
    (λ lead. base_lost g.S.Keeps.spec c.one_refusal.ensures.unfit c.args.self.now.rows c.take.new.self (fields_of c.args.fields.now) c.in-Base.row lead)
    (rw c.of.ensures at c.take.ensures.failed))

pub returns-in-Place-clause-answered : goal.returns-in-Place-clause-answered
returns-in-Place-clause-answered g c = rw c.in-Place.is c.place.ensures.answered

pub returns-in-Place-clause-lost : goal.returns-in-Place-clause-lost
returns-in-Place-clause-lost g c = rw c.in-Place.is c.place.ensures.lost

pub returns-in-Release-clause-answered : goal.returns-in-Release-clause-answered
returns-in-Release-clause-answered g c = rw c.in-Release.is c.release.ensures.answered

pub returns-in-Release-clause-lost : goal.returns-in-Release-clause-lost
returns-in-Release-clause-lost g c = rw c.in-Release.is c.release.ensures.lost

pub returns-in-Held-clause-answered : goal.returns-in-Held-clause-answered
returns-in-Held-clause-answered g c = rw c.in-Held.is c.restore.ensures.answered

pub returns-in-Held-clause-lost : goal.returns-in-Held-clause-lost
returns-in-Held-clause-lost g c = rw c.in-Held.is c.restore.ensures.lost

pub returns-in-Offer-clause-answered : goal.returns-in-Offer-clause-answered
returns-in-Offer-clause-answered g c = rw c.in-Offer.is (c.offer.ensures.answered (fields_of c.args.fields.now))

pub returns-in-Offer-clause-lost : goal.returns-in-Offer-clause-lost
returns-in-Offer-clause-lost g c = on_err_weaker c.offer.result (lost_same g.S.Keeps.spec (fields_of c.args.fields.now) (Ok c.args.row) c.args.self.now.rows c.offer.new.self.rows) c.offer.ensures.lost

pub returns-in-Show-clause-answered : goal.returns-in-Show-clause-answered
returns-in-Show-clause-answered g c = rw c.in-Show.is (c.show.ensures.answered (fields_of c.args.fields.now))

pub returns-in-Show-clause-lost : goal.returns-in-Show-clause-lost
returns-in-Show-clause-lost g c = on_err_weaker c.show.result (lost_same g.S.Keeps.spec (fields_of c.args.fields.now) (Ok c.args.row) c.args.self.now.rows c.show.new.self.rows) c.show.ensures.lost

pub returns-in-Left-clause-answered : goal.returns-in-Left-clause-answered
returns-in-Left-clause-answered g c = rw c.in-Left.is (c.left.ensures.answered (fields_of c.args.fields.now))

pub returns-in-Left-clause-lost : goal.returns-in-Left-clause-lost
returns-in-Left-clause-lost g c = on_err_weaker c.left.result (lost_same g.S.Keeps.spec (fields_of c.args.fields.now) (Ok c.args.row) c.args.self.now.rows c.left.new.self.rows) c.left.ensures.lost
