use Rattle.std.proofs.lemmas.Result.{IfOk-weaker, IfErr-weaker}
use Rattle.cspf_book_run.proofs.CompactRuns.{compaction_made, reading_stops}
use Rattle.cspf_book_run.proofs.compact_run.run_compact.Goals as goal

pub returns-clause-made : goal.returns-clause-made
returns-clause-made g c = IfOk-weaker c.compact_book.result _ _ (λ text made. compaction_made _ _ text.items c.in_ok-rows.ensures.read made) c.compact_book.ensures.made

pub returns-clause-stopped : goal.returns-clause-stopped
returns-clause-stopped g c = IfErr-weaker c.compact_book.result _ _ (λ why stops. reading_stops _ why stops) c.compact_book.ensures.stopped
