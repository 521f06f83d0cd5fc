use Rattle.std.proofs.Common.{◌≡◌, List, length, drop}
use Rattle.cspf_book.specs.declared.placement.Placement.{Placement}
use Rattle.cspf_book.specs.Alike.{AreAlike, IsCurrentBut}
use Rattle.cspf_book.specs.Kept.{IsCountOf}
use Rattle.cspf_book.proofs.moves.Held.refresh.Given as goal

abbrev pub invariant-loop-link : goal.invariant-loop-link
invariant-loop-link l = record {
  ids : l.self.ids ≡ l.initial.self.ids;
  links : l.self.links ≡ l.initial.self.links;
  counts : l.self.counts ≡ l.initial.self.counts;
  one : length l.self.one.changes ≡ 1;
  alike : AreAlike l.base l.self.effective;
  current :
      (placements : List Placement) → IsCountOf l.self.counts placements → IsCurrentBut l.base placements l.initial.self.effective l.placement.route
      → IsCurrentBut l.base placements l.self.effective (drop l.link-index l.placement.route);
}
