use Rattle.std.proofs.Common.{sym, subst}
use Rattle.cspf_model.specs.Changes.{database_after}
use Rattle.cspf_db.specs.Shapes.{HaveOneShape}
use Rattle.cspf_trees.specs.Trees.{AreTreesOf}
use Rattle.cspf_journal.specs.KnownBatches.{KnownBatches}
use Rattle.cspf_publish.specs.ReplicaRule.{CountsShapeChanges}
use Rattle.cspf_publish.specs.ShapeChanges.{HasShapeChanges}
use Rattle.cspf_trees.proofs.OutlastingTrees.{trees_kept}
use Rattle.cspf_publish.proofs.ShapeChanges.{one_shape}
use Rattle.cspf_publish.proofs.known_trees.KnownTrees.enter.Goals as goal

pub invariant_of-self : goal.invariant_of-self
invariant_of-self c =
    let own : KnownBatches = c.self.inside.known in
    let entered : KnownBatches = c.replica.inside.known in
    let count = c.self.inside.shape_changes in
    let counted : HasShapeChanges entered.batches c.replica.inside.shape_changes = subst CountsShapeChanges (sym c.replica.view_is) c.requires.shapes in
    let as_many : HasShapeChanges entered.batches count = subst (HasShapeChanges entered.batches) (sym c.if-self-replica.true) counted in
    let one : HaveOneShape (database_after own.batches) (database_after entered.batches) = one_shape entered.batches own.batches count c.if-raise.ensures.1 c.self.invariant.1 as_many in
    subst (λ (k : KnownBatches). AreTreesOf (database_after k.batches) c.self.inside.trees × HasShapeChanges k.batches count) (sym c.if-raise.ensures.0)
    (trees_kept _ _ c.self.inside.trees c.trees_outlast_bandwidth.ensures one c.self.invariant.0, as_many)
