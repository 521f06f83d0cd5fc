use Rattle.std.proofs.Common.{◌≡◌, ◌+◌, ◌++◌, [], ◌∷◌, arith, ap, sym, subst}
use Rattle.cspf_model.specs.Changes.{Fits}
use Rattle.cspf_publish.specs.ReplicaStates.{ReplicaState}
use Rattle.cspf_publish.specs.ReplicaRule.{HasItsDatabase, CountsShapeChanges}
use Rattle.cspf_publish.specs.ShapeChanges.{HasShapeChanges}
use Rattle.cspf_publish.proofs.ShapeChanges.{HasShapeChanges-kept, HasShapeChanges-changed, HasShapeChanges-le}
use Rattle.cspf_publish.proofs.replica.Replica.shape_changes_with.Goals as goal

pub overflow_add-result : goal.overflow_add-result
overflow_add-result c =
    let s : ReplicaState = c.args.self.now in
    omega (arith, ap (λ (s : ReplicaState). s.shape_changes) c.self.view_is, HasShapeChanges-le s.known.batches s.shape_changes c.requires.shapes, c.requires.next.room)

pub returns-then-changes_shape : goal.returns-then-changes_shape
returns-then-changes_shape c =
    let own : ReplicaState = record { right = c.self.inside.right; database = c.self.inside.table; known = c.self.inside.known; shape_changes = c.self.inside.shape_changes; is_open = c.self.inside.is_open } in
    let is : own ≡ c.args.self.now = c.self.view_is in
    let b = c.args.batch.now in
    let fits : Fits own.database b = subst (λ (s : ReplicaState). Fits s.database b) (sym is) (subst (λ d. Fits d b) (sym c.requires.database) c.requires.next.fits) in
    subst (λ (s : ReplicaState). HasShapeChanges (s.known.batches ++ b ∷ []) (own.shape_changes + 1)) is
    (HasShapeChanges-changed own b (subst HasItsDatabase (sym is) c.requires.database) (subst CountsShapeChanges (sym is) c.requires.shapes) (c.changes_shape.ensures.changed c.if-changes_shape.true fits))

pub returns-else-changes_shape : goal.returns-else-changes_shape
returns-else-changes_shape c =
    let own : ReplicaState = record { right = c.self.inside.right; database = c.self.inside.table; known = c.self.inside.known; shape_changes = c.self.inside.shape_changes; is_open = c.self.inside.is_open } in
    let is : own ≡ c.args.self.now = c.self.view_is in
    let b = c.args.batch.now in
    subst (λ (s : ReplicaState). HasShapeChanges (s.known.batches ++ b ∷ []) own.shape_changes) is
    (HasShapeChanges-kept own b (subst HasItsDatabase (sym is) c.requires.database) (subst CountsShapeChanges (sym is) c.requires.shapes) (c.changes_shape.ensures.kept c.if-changes_shape.false))
