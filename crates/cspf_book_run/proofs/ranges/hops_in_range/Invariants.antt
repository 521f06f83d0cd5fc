use Rattle.std.proofs.Common.{take}
use Rattle.std.specs.List.{AllByRecursion}
use Rattle.cspf_addr.specs.PrefixParts.{IsPrefix}
use Rattle.cspf_book_run.proofs.ranges.hops_in_range.Given as goal

-- the hops before this index are prefixes
abbrev pub invariant-loop-hop : goal.invariant-loop-hop
invariant-loop-hop l = AllByRecursion (λ hop. IsPrefix hop.prefix) (take l.hop-index l.hops)
