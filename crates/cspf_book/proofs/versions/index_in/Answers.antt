use Rattle.std.proofs.Common.{rules, ltb, ℕ}
use Rattle.std.proofs.lemmas.List.Sorted.{IsPartitionPoint-from_clause, IsPartitionedBy-ltb}
use Rattle.cspf_book.proofs.ById.{index_by_split}
use Rattle.cspf_book.proofs.versions.index_in.Goals as goal

pub returns : goal.returns
returns c = λ rises.
    index_by_split c.args.versions.now c.args.version _
    (IsPartitionPoint-from_clause (λ (v : ℕ). ltb v c.args.version) _ _ c.partition_point.ensures.partitioned (IsPartitionedBy-ltb (λ (v : ℕ). v) _ c.args.version rises) (λ a r q k. search rules))
