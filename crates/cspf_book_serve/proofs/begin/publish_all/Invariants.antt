use Rattle.std.proofs.Common.{◌≡◌, false, take}
use Rattle.std.specs.Io.KnownBytes.{Appends}
use Rattle.cspf_rows.specs.JournalLaws.{journal_text}
use Rattle.cspf_book_serve.proofs.begin.publish_all.Given as goal

-- The batches before this index are published.
abbrev pub invariant-loop-batch : goal.invariant-loop-batch
invariant-loop-batch g l = record {
  made : l.publisher.batches ≡ take l.batch-index l.batches;
  recorded : Appends (g.J.Write.contents l.fn.publisher.journal) (g.J.Write.contents l.publisher.journal) (journal_text (take l.batch-index l.batches));
  going : l.publisher.stopped ≡ false;
  source : l.publisher.source ≡ l.fn.publisher.source;
}
