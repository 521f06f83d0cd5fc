use Rattle.std.proofs.Common.{List, IfOk, IfErr, inl, inr, refl, sym, subst}
use Rattle.std.proofs.lemmas.Result.{IfOk-weaker, IfErr-weaker}
use Rattle.cspf_model.specs.declared.batch.Change.{Change}
use Rattle.cspf_stream.specs.OpenChanges.{AreOpen}
use Rattle.cspf_stream.specs.RowsTaken.{IsRightFor, IsBatchTaken, IsBatchDropped}
use Rattle.cspf_stream.specs.declared.rows.Rows.{Rows}
use Rattle.cspf_stream.proofs.rows.Rows.give.Goals as goal

pub returns-in-Some-clause-refused : goal.returns-in-Some-clause-refused
returns-in-Some-clause-refused g c = λ all opened. inl (rw opened.count at c.in-Some.ensures.wrong, refl)

pub returns-clause-accepted : goal.returns-clause-accepted
returns-clause-accepted g c =
    let right = subst (λ (k : Rows g.row.S.Denot). IsRightFor g.S.Sink.spec k.sink c.args.number c.args.count k.changes.count) (sym c.self.view_is) c.in_default.ensures.right in
    subst (λ (k : Rows g.row.S.Denot). IfOk c.accept.result (λ found. IfOk found (λ lines. (all : List Change) → AreOpen k.changes all
    → IsBatchTaken g.S.Sink.spec k.sink c.args.number c.args.count all lines.items c.accept.new.self))) c.self.view_is
    (IfOk-weaker c.accept.result _ _ (λ found accepted. IfOk-weaker found _ _ (λ lines taken. λ all opened. (rw opened.count at right, taken all opened.changes)) accepted) c.accept.ensures.accepted)

pub returns-clause-refused : goal.returns-clause-refused
returns-clause-refused g c =
    let right = subst (λ (k : Rows g.row.S.Denot). IsRightFor g.S.Sink.spec k.sink c.args.number c.args.count k.changes.count) (sym c.self.view_is) c.in_default.ensures.right in
    subst (λ (k : Rows g.row.S.Denot). IfOk c.accept.result (λ found. IfErr found (λ why. (all : List Change) → AreOpen k.changes all
    → IsBatchDropped g.S.Sink.spec k.sink c.args.number c.args.count all why c.accept.new.self))) c.self.view_is
    (IfOk-weaker c.accept.result _ _ (λ found dropped. IfErr-weaker found _ _ (λ why refused. λ all opened. inr (rw opened.count at right, refused all opened.changes)) dropped) c.accept.ensures.refused)
