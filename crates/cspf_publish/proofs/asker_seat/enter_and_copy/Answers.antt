use Rattle.std.proofs.Common.{◌≡◌, IfSome, sym, subst, ap, ◌∙◌}
use Rattle.cspf_publish.specs.AskerStates.{AskerState}
use Rattle.cspf_publish.specs.ReplicaStates.{ReplicaState}
use Rattle.cspf_publish.specs.ReplicaRule.{HasItsDatabase, CountsShapeChanges}
use Rattle.cspf_publish.proofs.Steps.{enters}
use Rattle.cspf_publish.proofs.asker_seat.enter_and_copy.Goals as goal

pub enter_as-requires : goal.enter_as-requires
enter_as-requires c = enters _ _

pub copied-table-requires : goal.copied-table-requires
copied-table-requires c = subst HasItsDatabase (sym c.get-replica.ensures) c.in-Ok.ensures.1.database

pub trees_at-trees-requires-clause-shapes : goal.trees_at-trees-requires-clause-shapes
trees_at-trees-requires-clause-shapes c = subst CountsShapeChanges (sym c.get-replica.ensures) c.in-Ok.ensures.1.shapes

pub trees_at-trees-requires-clause-source : goal.trees_at-trees-requires-clause-source
trees_at-trees-requires-clause-source c =
    let first = c.in-Ok.ensures.1.later c.requires.entered c.requires.is in
    subst (λ source. IfSome c.args.seat.trees (λ (old : AskerState). source ≡ old.source))
    (first.source ∙ ap (λ (s : ReplicaState). s.known.source) (sym c.get-replica.ensures))
    c.requires.trees
