use Rattle.std.proofs.Common.{◌≡◌, true, arith}
use Rattle.std.proofs.lemmas.Grind.{common_steps}
use Rattle.cspf_columns.proofs.RowOrder.{from_rises}
use Rattle.cspf_columns.proofs.RowSpans.{filter-run}
use Rattle.cspf_columns.proofs.spans.is_span.Goals as goal

pub returns-then-is_behind-clause-rows : goal.returns-then-is_behind-clause-rows
returns-then-is_behind-clause-rows c = λ on.
    let run : c.is_run.result ≡ true = grind (arith, common_steps) in
    filter-run c.args.rows.now c.args.router c.args.first c.args.end (from_rises c.args.rows.now c.requires.by_key) c.requires.order c.if-end-rows.false (c.is_run.ensures run)
    (c.is_behind.ensures c.if-is_behind.true) (c.is_before.ensures on)
