use Rattle.std.proofs.Common.{subst}
use Rattle.std.proofs.lemmas.Result.{IfOk-weaker, on_err_weaker}
use Rattle.csv.specs.Records.{fields_of}
use Rattle.cspf_serve.specs.UpdatesStates.{KeptUpdates, IsUpdateTaken, IsUpdateFailed}
use Rattle.cspf_serve.proofs.UpdatesSteps.{kept_of, update_taken, update_lost}
use Rattle.cspf_serve.proofs.serving.updates.UpdatesAnswering.answer.Goals as goal

pub returns-clause-answered : goal.returns-clause-answered
returns-clause-answered g c =
    IfOk-weaker c.answer.result _ _
    (λ line lead. subst (λ (k : KeptUpdates g.row.J.Denot). IsUpdateTaken g.J.Write.contents c.args.place k (fields_of c.args.fields.now) line.items (kept_of c.answer.new.self)) c.self.view_is
    (update_taken g.J.Write.contents c.one_refusal.ensures.unfit c.self.inside.rows c.answer.new.self c.args.place (fields_of c.args.fields.now) line.items lead))
    (rw c.read.ensures at c.answer.ensures.answered)

pub returns-clause-failed : goal.returns-clause-failed
returns-clause-failed g c =
    on_err_weaker c.answer.result
    (λ lead. subst (λ (k : KeptUpdates g.row.J.Denot). IsUpdateFailed g.J.Write.contents c.args.place k (fields_of c.args.fields.now) (kept_of c.answer.new.self)) c.self.view_is
    (update_lost g.J.Write.contents c.one_refusal.ensures.unfit c.self.inside.rows c.answer.new.self c.args.place (fields_of c.args.fields.now) lead))
    (rw c.read.ensures at c.answer.ensures.failed)
