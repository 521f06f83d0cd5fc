use Rattle.std.proofs.Common.{ℕ, ◌<◌, slice_index}
use Rattle.cspf_meet.specs.Guided.{GuidedFalls, IsLinkGuided}
use Rattle.cspf_meet.proofs.guide.look.Given as goal

abbrev pub invariant-loop-row : goal.invariant-loop-row
invariant-loop-row g l = record {
  falls : GuidedFalls (g.B.LowerBounds.bound_of l.bounds) l.fn.guided l.guided;
  passed : (k : ℕ) → k < l.row → IsLinkGuided l.query.table.now l.query.request.now (g.B.LowerBounds.bound_of l.bounds) l.links l.rank l.query.to k (slice_index l.ends k) (slice_index l.reverses k) l.guided.ranks.items l.guided.most;
}
