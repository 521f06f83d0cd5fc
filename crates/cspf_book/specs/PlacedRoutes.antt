-- What holds of the placements of each book, and of their routes.
use Rattle.std.specs.Prelude.{◌≤◌, List, length, map, nat_eq}
use Rattle.std.specs.List.{IsDistinct, AllByRecursion}
use Rattle.cspf_book.specs.declared.limits.TheConstants.{MOST_PLACED_LINKS, MOST_PLACEMENTS, MOST_ROUTES_LINKS}
use Rattle.cspf_book.specs.declared.path.Passed.{Passed}
use Rattle.cspf_book.specs.declared.placement.Placement.{Placement}
use Rattle.cspf_book.specs.PathsFrom.{LeadFromTo}
use Rattle.cspf_book.specs.Placements.{ArePassedOnce, id_of}
use Rattle.cspf_book.specs.BookState.{links_placed}

-- No two placements have the same id.
abbrev pub HaveDistinctIds : List Placement → Type 0
HaveDistinctIds placements = IsDistinct nat_eq (map id_of placements)

-- The route uses no link twice, and has at most `MOST_PLACED_LINKS` links.
pub record IsOwnRoute (links : List Passed) : Type 0 where
  pub once : ArePassedOnce links
  pub short : length links ≤ MOST_PLACED_LINKS

-- Each placement's route uses no link twice, and has at most `MOST_PLACED_LINKS` links.
abbrev pub HaveOwnRoutes : List Placement → Type 0
HaveOwnRoutes placements = AllByRecursion (λ p. IsOwnRoute p.route) placements

-- The placement's route leads from the head-end of its request to the tail-end.
abbrev pub ConnectsItsEnds : Placement → Type 0
ConnectsItsEnds p = LeadFromTo p.request.from p.request.to p.route

-- Each placement's route leads from the head-end of its request to the tail-end.
abbrev pub ConnectTheirEnds : List Placement → Type 0
ConnectTheirEnds placements = AllByRecursion ConnectsItsEnds placements

-- What holds of the placements of each book. No two have the same id. No route uses a link twice.
-- Each route leads from its request's head-end to the tail-end. The placements and the links of
-- their routes are within the limits.
pub record ArePlaced (placements : List Placement) : Type 0 where
  pub own_ids : HaveDistinctIds placements
  pub routes : HaveOwnRoutes placements
  pub ends : ConnectTheirEnds placements
  pub few : length placements ≤ MOST_PLACEMENTS
  pub few_links : links_placed placements ≤ MOST_ROUTES_LINKS
