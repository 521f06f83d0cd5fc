use Rattle.std.proofs.Common.{◌≡◌, ◌∙◌, sym, ap, fold, drop, subst, rules}
use Rattle.cspf_journal.specs.KnownBatches.{known_with}
use Rattle.cspf_publish.specs.ReplicaStates.{ReplicaState, state_with}
use Rattle.cspf_publish.specs.ReplicaRule.{HasItsDatabase, CountsShapeChanges, IsCopyByRight}
use Rattle.cspf_publish.specs.declared.replica.PendingBatch.{PendingBatch}
use Rattle.cspf_publish.proofs.Steps.{publishes, HasItsDatabase-more, state_from_known}
use Rattle.cspf_publish.proofs.replicas.swap_replicas.Goals as goal

pub publish_as-writer-requires : goal.publish_as-writer-requires
publish_as-writer-requires g c next is =
    let shown : ReplicaState = c.args.writer.desk.shown.value in
    let p = c.requires.pending in
    let step : ReplicaState → PendingBatch → ReplicaState = λ s p. state_with s p.batch p.known p.shape_changes in
    let new : next ≡ state_with shown p.0 (known_with shown.known.batches shown.known.source p.0) p.1 = is ∙ ap (fold step shown) p.4 in
    let has : HasItsDatabase shown = ap (λ (s : ReplicaState). s.database) c.requires.shown in
    publishes c.lawful_batches.ensures.more _ _ shown next p.0 c.requires.seat p.2 (ap (λ (s : ReplicaState). s.known) new) (ap (λ (s : ReplicaState). s.is_open) new)
    (subst HasItsDatabase (sym new) (HasItsDatabase-more c.absorbing.ensures shown p.0 p.1 has p.2)) (subst CountsShapeChanges (sym new) p.3) (ap (λ (s : ReplicaState). s.right) new)

pub returns-clause-shown : goal.returns-clause-shown
returns-clause-shown g c =
    let shown : ReplicaState = c.args.writer.desk.shown.value in
    let p = c.requires.pending in
    let step : ReplicaState → PendingBatch → ReplicaState = λ s p. state_with s p.batch p.known p.shape_changes in
    let now : ReplicaState = c.publish_as-writer.result.0.desk.shown.value in
    let folded : now ≡ fold step shown (drop c.args.writer.behind c.args.writer.log.items) = search rules in
    let new : now ≡ state_with shown p.0 (known_with shown.known.batches shown.known.source p.0) p.1 = folded ∙ ap (fold step shown) p.4 in
    let has : HasItsDatabase shown = ap (λ (s : ReplicaState). s.database) c.requires.shown in
    state_from_known now (subst HasItsDatabase (sym new) (HasItsDatabase-more c.absorbing.ensures shown p.0 p.1 has p.2)) (subst IsCopyByRight (sym new) (ap (λ (s : ReplicaState). s.right) c.requires.shown)) (ap (λ (s : ReplicaState). s.is_open) new)

pub returns-clause-shapes : goal.returns-clause-shapes
returns-clause-shapes g c =
    let shown : ReplicaState = c.args.writer.desk.shown.value in
    let p = c.requires.pending in
    let step : ReplicaState → PendingBatch → ReplicaState = λ s p. state_with s p.batch p.known p.shape_changes in
    let now : ReplicaState = c.publish_as-writer.result.0.desk.shown.value in
    let folded : now ≡ fold step shown (drop c.args.writer.behind c.args.writer.log.items) = search rules in
    let new : now ≡ state_with shown p.0 (known_with shown.known.batches shown.known.source p.0) p.1 = folded ∙ ap (fold step shown) p.4 in
    subst CountsShapeChanges (sym new) p.3
