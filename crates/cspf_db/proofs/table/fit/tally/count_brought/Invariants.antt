use Rattle.std.proofs.Common.{◌≤◌, ◌*◌, take}
use Rattle.cspf_model.specs.Lemmas.CountedEnds.{BringsAtMost}
use Rattle.cspf_db.proofs.table.fit.tally.count_brought.Given as goal

abbrev pub invariant-loop-at : goal.invariant-loop-at
invariant-loop-at l = record {
  few : l.brought ≤ 2 * l.at;
  most : BringsAtMost l.routers (take l.at l.changes) l.brought;
}
