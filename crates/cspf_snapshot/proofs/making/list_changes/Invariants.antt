use Rattle.std.proofs.Common.{◌≡◌, ◌++◌, map, take}
use Rattle.cspf_model.specs.declared.batch.Change.TheVariants.{Put}
use Rattle.cspf_snapshot.specs.Snapshots.{marking}
use Rattle.cspf_snapshot.proofs.making.list_changes.Given as goal

abbrev pub invariant-loop-link : goal.invariant-loop-link
invariant-loop-link l = l.changes.items ≡ map Put (take l.link-index l.links)

abbrev pub invariant-loop-mark : goal.invariant-loop-mark
invariant-loop-mark l =
    l.changes.items ≡ map Put l.links ++ map marking (take l.mark-index l.marks)
