use Rattle.std.proofs.Common.{◌≡◌, ◌∙◌, sym, ap, fold, true}
use Rattle.cspf_publish.specs.ReplicaStates.{ReplicaState, state_with}
use Rattle.cspf_publish.specs.declared.replica.PendingBatch.{PendingBatch}
use Rattle.cspf_publish.proofs.Steps.{opens, idle_twice}
use Rattle.cspf_publish.proofs.replicas.open_writer.Goals as goal

pub publish_as-writer-requires : goal.publish_as-writer-requires
publish_as-writer-requires g c next is =
    let shown : ReplicaState = c.args.writer.desk.shown.value in
    let step : ReplicaState → PendingBatch → ReplicaState = λ s p. state_with s p.batch p.known p.shape_changes in
    let new : next ≡ record { right = shown.right; database = shown.database; known = shown.known; shape_changes = 0; is_open = true } = is ∙ (ap (fold step shown) c.requires.pending ∙ idle_twice shown) in
    opens _ _ shown next (ap (λ (s : ReplicaState). s.is_open) c.requires.empty) (ap (λ (s : ReplicaState). s.is_open) new) (ap (λ (s : ReplicaState). s.database) new) (ap (λ (s : ReplicaState). s.known) new) (ap (λ (s : ReplicaState). s.shape_changes) new ∙ sym (ap (λ (s : ReplicaState). s.shape_changes) c.requires.empty)) (ap (λ (s : ReplicaState). s.right) new)
