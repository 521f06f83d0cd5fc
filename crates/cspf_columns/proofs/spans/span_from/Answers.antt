use Rattle.cspf_columns.proofs.RowOrder.{from_rises}
use Rattle.cspf_columns.proofs.RowSpans.{filter-run}
use Rattle.cspf_columns.proofs.spans.span_from.Goals as goal

pub returns-then-is_before-clause-rows : goal.returns-then-is_before-clause-rows
returns-then-is_before-clause-rows c =
    filter-run c.args.rows.now c.args.router c.args.at c.skip-end.result (from_rises c.args.rows.now c.requires.by_key) c.skip-end.ensures.order c.skip-end.ensures.bound c.skip-end.ensures.run
    (c.is_behind.ensures c.if-is_behind.true) (c.is_before.ensures c.if-is_before.true)
