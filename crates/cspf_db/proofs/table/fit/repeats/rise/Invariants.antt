use Rattle.std.specs.List.{AllAdjacentBelow}
use Rattle.cspf_model.proofs.Batches.RisingKeys.{IsBelow}
use Rattle.cspf_db.proofs.table.fit.repeats.rise.Given as goal

abbrev pub invariant-loop-at : goal.invariant-loop-at
invariant-loop-at l = AllAdjacentBelow IsBelow l.keys l.at
