use Rattle.std.proofs.Common.{◌≡◌, ◌<◌, ◌++◌, length, reverse}
use Rattle.cspf_search.specs.Arena.{walk_at, walks}
use Rattle.cspf_search.proofs.arena.links_to.Given as goal

abbrev pub invariant-loop-link : goal.invariant-loop-link
invariant-loop-link l = record {
  within : l.index < length l.nodes;
  whole : walk_at (walks l.nodes) l.index ++ reverse l.links.items ≡ walk_at (walks l.nodes) l.at;
}

abbrev pub decreases-loop-link : goal.decreases-loop-link
decreases-loop-link l = l.index
