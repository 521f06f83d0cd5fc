use Rattle.std.proofs.Common.{◌≡◌, take}
use Rattle.cspf_model.specs.Changes.{after_changes}
use Rattle.cspf_book.specs.Touched.{AreEntered}
use Rattle.cspf_book.proofs.touched.Touched.new.Given as goal

abbrev pub invariant-loop-change : goal.invariant-loop-change
invariant-loop-change l = record {
  groups : l.touched.groups ≡ l.groups;
  entered : AreEntered l.base (after_changes l.base l.changed) (take l.change-index l.changes) l.touched;
}
