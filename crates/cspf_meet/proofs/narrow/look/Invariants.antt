use Rattle.std.proofs.Common.{ℕ, ◌<◌, slice_index}
use Rattle.cspf_meet.specs.Corridors.{CorridorFalls, IsLinkNarrowed}
use Rattle.cspf_meet.proofs.narrow.look.Given as goal

abbrev pub invariant-loop-row : goal.invariant-loop-row
invariant-loop-row l = record {
  falls : CorridorFalls l.fn.corridor l.corridor;
  passed : (k : ℕ) → k < l.row → IsLinkNarrowed l.query.table.now l.query.request.now l.head l.base l.query.from (slice_index l.ends k) (slice_index l.reverses k) l.corridor.near.items;
}
