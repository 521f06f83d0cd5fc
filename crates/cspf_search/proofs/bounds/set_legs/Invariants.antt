use Rattle.std.proofs.Common.{◌≡◌, ℕ, ◌+◌, ◌*◌, ◌<◌, ◌≤◌, length}
use Rattle.cspf_search.specs.Bounds.{AreBounds, bound_at}
use Rattle.cspf_search.proofs.bounds.set_legs.Given as goal

abbrev pub invariant-loop-leg_index : goal.invariant-loop-leg_index
invariant-loop-leg_index l = record {
  most : l.leg_index ≤ length l.query.request.now.hops + 1;
  bounds : AreBounds l.query.table.now l.query.request.now l.bounds;
  zeros : (i : ℕ) → i < l.leg_index * 1024 → bound_at l.bounds i ≡ 0;
}

abbrev pub decreases-loop-leg_index : goal.decreases-loop-leg_index
decreases-loop-leg_index l = l.leg_index
