use Rattle.std.proofs.Common.{rules, ltb, leb}
use Rattle.std.proofs.lemmas.List.Sorted.{IsPartitionPoint-from_clause, IsPartitionedBy-ltb, IsPartitionedBy-leb}
use Rattle.cspf_model.specs.declared.link.Link.{Link}
use Rattle.cspf_columns.proofs.RowOrder.{from_rises}
use Rattle.cspf_columns.proofs.RowSpans.{span_in_order, filter-span}
use Rattle.cspf_columns.proofs.rows.span.Goals as goal

pub returns-clause-order : goal.returns-clause-order
returns-clause-order c =
    let rises = from_rises c.args.rows.now c.requires in
    let low = IsPartitionPoint-from_clause (λ (l : Link). ltb l.from c.args.router) _ _ c.partition_point-first.ensures.partitioned (IsPartitionedBy-ltb (λ (l : Link). l.from) _ c.args.router rises) (λ a r q k. search rules) in
    let high = IsPartitionPoint-from_clause (λ (l : Link). leb l.from c.args.router) _ _ c.partition_point-end.ensures.partitioned (IsPartitionedBy-leb (λ (l : Link). l.from) _ c.args.router rises) (λ a r q k. search rules) in
    span_in_order c.args.rows.now c.args.router _ _ c.partition_point-first.ensures.bound c.partition_point-end.ensures.bound low high

pub returns-clause-rows : goal.returns-clause-rows
returns-clause-rows c =
    let rises = from_rises c.args.rows.now c.requires in
    let low = IsPartitionPoint-from_clause (λ (l : Link). ltb l.from c.args.router) _ _ c.partition_point-first.ensures.partitioned (IsPartitionedBy-ltb (λ (l : Link). l.from) _ c.args.router rises) (λ a r q k. search rules) in
    let high = IsPartitionPoint-from_clause (λ (l : Link). leb l.from c.args.router) _ _ c.partition_point-end.ensures.partitioned (IsPartitionedBy-leb (λ (l : Link). l.from) _ c.args.router rises) (λ a r q k. search rules) in
    filter-span c.args.rows.now c.args.router _ _ c.partition_point-first.ensures.bound c.partition_point-end.ensures.bound low high
