-- Private: how a route is followed link by link in a database, and how the placements that lose
-- their routes are sorted.
use Rattle.std.specs.Prelude.{◌≡◌, ◌≢◌, ◌-◌, ◌↔◌, ℕ, Some, List, AllPairs, Contains, map}
use Rattle.cspf_model.specs.declared.link.Link.{Link}
use Rattle.cspf_book.specs.declared.path.Passed.{Passed}
use Rattle.cspf_model.specs.declared.request.Request.{Request}
use Rattle.cspf_model.specs.Database.{Database, link_at}
use Rattle.cspf_model.specs.Admissible.{IsAdmitted, IsAdmissible, MayLeave}
use Rattle.cspf_book.specs.declared.placement.Placement.{Placement}
use Rattle.cspf_book.specs.Placements.{passed_of, key_passed, id_of}
use Rattle.cspf_book.specs.LostRoutes.{IsLost}

-- The database has an admissible link with the same key as this link, and both links run to the same router.
pub record HasItsLink (d : Database) (q : Request) (l : Passed) : Type 0 where
  pub found : Link
  pub admissible : IsAdmissible d q found
  pub alike : passed_of found ≡ l

-- The database has a link with the same key as this link, and the request admits that link.
pub record HasAdmittedLink (d : Database) (q : Request) (l : Passed) : Type 0 where
  pub found : Link
  pub link : link_at d (key_passed l) ≡ Some found
  pub admitted : IsAdmitted q found

-- A walk has reached `router` over `links` links, and may continue along the database's link at the
-- key of `l`.
pub record MayGoOn (d : Database) (q : Request) (links router : ℕ) (l : Passed) : Type 0 where
  pub from : l.from ≡ router
  pub leaves : MayLeave d router links
  pub there : HasItsLink d q l

-- no two of the placements share an id
abbrev pub HaveOtherIds : List Placement → Type 0
HaveOtherIds placements = AllPairs (λ p r. id_of p ≢ id_of r) placements

-- the rank by which placements are sorted: 7 minus the holding priority, then the id
abbrev pub order_rank : Placement → ℕ × ℕ
order_rank p = (7 - p.hold, id_of p)

-- `ranks` has the rank of each placement that loses its route, in any order. A rank is 7 minus the
-- holding priority of a placement, together with the id of the placement.
pub record AreRanksOfLost (before after : Database) (placements : List Placement) (ranks : List (ℕ × ℕ)) : Type 0 where
  pub lost : List Placement
  pub members : (p : Placement) → Contains lost p ↔ (Contains placements p × IsLost before after p)
  pub other_ids : HaveOtherIds lost
  pub are : ranks ≡ map order_rank lost
