use Rattle.std.proofs.Common.{ℕ, Contains, take}
use Rattle.cspf_graph.specs.Lists.{router_at}
use Rattle.cspf_search.specs.Strict.{IsApart}
use Rattle.cspf_search.proofs.strict.is_broken.Given as goal

abbrev pub invariant-loop-place : goal.invariant-loop-place
invariant-loop-place l =
    (p : ℕ) → Contains (take l.place-index l.starts) p → IsApart l.query.table.now l.query.request.now l.leg_index (router_at l.query.table.now p)
