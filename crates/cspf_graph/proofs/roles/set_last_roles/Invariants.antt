use Rattle.std.proofs.Common.{◌≡◌, ◌≢◌, ℕ, ◌+◌, ◌/◌, ◌%◌, ◌<◌, length, slice_index, slice_index_or}
use Rattle.cspf_db.specs.Index.{router_list}
use Rattle.cspf_graph.specs.declared.roles.Role.{Role}
use Rattle.cspf_graph.specs.Roles.{IsRole, IsStateIndex}
use Rattle.cspf_graph.specs.Lists.{router_at}
use Rattle.cspf_graph.proofs.roles.set_last_roles.Given as goal

abbrev pub invariant-loop-place : goal.invariant-loop-place
invariant-loop-place l =
    (i : ℕ) (e : Role) → IsStateIndex l.table l.request i → i / 1024 ≡ length l.request.hops → i % 1024 < l.place → slice_index (router_list l.table) (i % 1024) ≢ l.request.to
    → IsRole l.table l.request (i / 1024 + 1) (router_at l.table (i % 1024)) (slice_index_or l.roles i e)
