use Rattle.std.proofs.Common.{ℕ, ◌+◌, ◌<◌, IsTrue, slice_index, slice_index_or}
use Rattle.cspf_model.specs.declared.link.Link.{Link}
use Rattle.cspf_model.specs.Admissible.{IsUsable}
use Rattle.cspf_graph.specs.RoleSteps.{nothing}
use Rattle.cspf_search.proofs.strict.joins.Given as goal

abbrev pub invariant-loop-row : goal.invariant-loop-row
invariant-loop-row l =
    (k : ℕ) (e : Link) → k < l.row → IsTrue (slice_index_or l.query.roles.now (l.first + slice_index l.ends k) nothing).target
    → IsUsable l.query.table.now l.query.request.now (slice_index_or l.links k e) → ⊥
