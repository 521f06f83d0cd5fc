use Rattle.std.proofs.Common.{◌≡◌, ◌∙◌, IfOk, ap, subst}
use Rattle.cspf_model.specs.Database.{Database}
use Rattle.cspf_model.specs.Changes.{database_after}
use Rattle.cspf_model.specs.Best.{IsBestAnswer}
use Rattle.cspf_model.specs.Outcome.{answer_of}
use Rattle.cspf_journal.specs.KnownBatches.{KnownBatches}
use Rattle.cspf_publish.specs.ReplicaStates.{ReplicaState}
use Rattle.cspf_publish.proofs.replicas.Replicas.best.Goals as goal

pub returns : goal.returns
returns c =
    let shown : c.behind-self.inside.table ≡ database_after c.self.inside.writer.desk.shown.value.known.batches =
    ap (λ (s : ReplicaState). s.database) (c.behind-self.view_is ∙ (c.published.ensures ∙ c.self.invariant.0)) in
    let has : c.behind-self.inside.table ≡ database_after c.args.self.now.batches = shown ∙ ap (λ (k : KnownBatches). database_after k.batches) c.self.view_is in
    subst (λ (d : Database). IfOk c.best.result (λ outcome. IsBestAnswer d c.args.request.now (answer_of outcome))) has c.best.ensures
