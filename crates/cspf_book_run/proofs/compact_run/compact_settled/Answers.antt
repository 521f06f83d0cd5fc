use Rattle.std.proofs.Common.{◌-◌, length}
use Rattle.std.proofs.lemmas.Result.{IfOk-weaker, IfErr-weaker}
use Rattle.cspf_rows.specs.Records.{rows_of}
use Rattle.cspf_book_run.specs.Compacts.{IsCompaction, IsCompactStop}
use Rattle.cspf_book_run.specs.Settled.{IsTornCompaction, IsTornStop}
use Rattle.cspf_book_run.proofs.CompactRuns.{torn_stop, cut_settled_part}
use Rattle.cspf_book_run.proofs.compact_run.compact_settled.Goals as goal

pub returns-clause-made : goal.returns-clause-made
returns-clause-made c =
    let part = c.settled_part-part.result.now in
    IfOk-weaker c.run_compact.result (λ text. IsCompaction (rows_of part) text.items) (λ text. IsTornCompaction c.args.bytes.now text.items (length c.args.bytes.now - length part))
    (λ text made. (part, cut_settled_part c.args.bytes.now part c.settled_part-part.ensures, made)) c.run_compact.ensures.made

pub returns-clause-stopped : goal.returns-clause-stopped
returns-clause-stopped c =
    let part = c.settled_part-part.result.now in
    IfErr-weaker c.run_compact.result (λ why. IsCompactStop why (rows_of part)) (λ why. IsTornStop why c.args.bytes.now (length c.args.bytes.now - length part))
    (λ why stops. torn_stop c.args.bytes.now part (length c.args.bytes.now - length part) why (cut_settled_part c.args.bytes.now part c.settled_part-part.ensures) stops) c.run_compact.ensures.stopped
