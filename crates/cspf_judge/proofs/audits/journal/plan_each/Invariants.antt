use Rattle.std.proofs.Common.{◌≡◌, ◌≤◌, length, take}
use Rattle.std.specs.Vec.{vec_capacity}
use Rattle.cspf_model.specs.Changes.{AreLawful, database_after}
use Rattle.cspf_judge.specs.Reading.{ArePlansUpTo}
use Rattle.cspf_judge.proofs.audits.journal.plan_each.Given as goal

abbrev pub invariant-loop-batch : goal.invariant-loop-batch
invariant-loop-batch l = record {
  table : l.table ≡ database_after (take l.batch-index l.batches);
  lawful : AreLawful (take l.batch-index l.batches);
  planned : ArePlansUpTo l.batches l.plans.items l.batch-index;
  room : length l.batches ≤ vec_capacity l.plans;
}
