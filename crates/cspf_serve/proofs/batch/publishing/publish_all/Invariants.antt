use Rattle.std.proofs.Common.{◌≡◌, ◌-◌, ◌≤◌, ℕ, List, [], length, Option, None, false}
use Rattle.cspf_model.specs.Numbered.{NumberedChanges}
use Rattle.cspf_rows.specs.GivenBatches.{CanRead, HasGiven, rows_read}
use Rattle.cspf_serve.specs.PublishedBatches.{ArePublishedOrRefused}
use Rattle.cspf_serve.proofs.batch.publishing.publish_all.Given as goal

-- all batches that were read are published, or only the batches before the first batch that doesn't
-- fit
abbrev pub invariant-loop-batch : goal.invariant-loop-batch
invariant-loop-batch g l = record {
  can : CanRead l.journal;
  count : l.count ≤ rows_read l.journal;
  source : l.publisher.source ≡ l.fn.publisher.source;
  going : l.unfit ≡ None → l.publisher.stopped ≡ false;
  given : (all : Option (List (List (List ℕ)))) → HasGiven g.R.Read.remaining all l.fn.journal []
      → (given : List NumberedChanges) × HasGiven g.R.Read.remaining all l.journal given × (length given ≡ l.count)
      × ArePublishedOrRefused given l.publisher.batches l.unfit;
}

abbrev pub decreases-loop-batch : goal.decreases-loop-batch
decreases-loop-batch g l = 1000000 - rows_read l.journal
