use Rattle.std.proofs.Common.{ℕ, ◌<◌, ◌≤◌, slice_index}
use Rattle.cspf_meet.specs.Labels.{LabelsFall}
use Rattle.cspf_meet.specs.Looks.{IsLinkOffered, link_index}
use Rattle.cspf_meet.proofs.look.look.Given as goal

abbrev pub invariant-loop-row : goal.invariant-loop-row
invariant-loop-row l = record {
  falls : LabelsFall l.fn.labels l.labels;
  least : l.least ≤ l.most;
  passed : (k : ℕ) → k < l.row → IsLinkOffered l.query.table.now l.query.request.now l.turn.links.now l.turn.rank l.turn.goal (link_index l.turn.direction k (slice_index l.reverses k)) (slice_index l.ends k) (slice_index l.reverses k) l.labels.ranks.items l.least;
}
