use Rattle.std.proofs.Common.{◌≡◌, List, map, take}
use Rattle.std.specs.List.{flat_map}
use Rattle.cspf_model.specs.Database.{link_at}
use Rattle.cspf_book.specs.declared.placement.Placement.{Placement}
use Rattle.cspf_book.specs.Kept.{IsCountOf}
use Rattle.cspf_book.specs.Placements.{key_passed}
use Rattle.cspf_book.specs.OverLinks.{made_over_on}
use Rattle.cspf_book.proofs.over.find_made_over.Given as goal

abbrev pub invariant-loop-link : goal.invariant-loop-link
invariant-loop-link l =
    (placements : List Placement) → IsCountOf l.counts placements
    → l.list.items ≡ flat_map (λ k. made_over_on placements l.placement (link_at l.base k)) (map key_passed (take l.link-index l.link-items))
