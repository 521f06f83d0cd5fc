use Rattle.std.proofs.Common.{◌≡◌, ◌∙◌, ap}
use Rattle.cspf_model.specs.Changes.{database_after}
use Rattle.cspf_journal.specs.KnownBatches.{KnownBatches}
use Rattle.cspf_publish.specs.ReplicaStates.{ReplicaState}
use Rattle.cspf_publish.proofs.known_trees.KnownTrees.best.Goals as goal

pub returns-clause-best : goal.returns-clause-best
returns-clause-best c =
    let has : c.replica.inside.table ≡ database_after c.args.self.now.batches =
    ap (λ (s : ReplicaState). s.database) c.replica.view_is ∙ (c.requires.database ∙ ap (λ (k : KnownBatches). database_after k.batches) c.requires.known) in
    rw has at c.best.ensures.best
