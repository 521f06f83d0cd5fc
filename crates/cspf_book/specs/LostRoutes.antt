-- Which routes of placements a database admits, and which of these routes are lost when another
-- database replaces it.
use Rattle.std.specs.Prelude.{◌≡◌, ◌<◌, ◌⊎◌, ◌↔◌, ℕ, List, AllPairs, Contains, map}
use Rattle.cspf_model.specs.declared.link.Link.{Link}
use Rattle.cspf_model.specs.declared.request.Request.{Request}
use Rattle.cspf_model.specs.Database.{Database}
use Rattle.cspf_model.specs.Walks.{IsWalk}
use Rattle.cspf_book.specs.declared.placement.Placement.{Placement}
use Rattle.cspf_book.specs.Placements.{passed_of, id_of}

-- the same request with bandwidth 0
abbrev pub without_bandwidth : Request → Request
without_bandwidth q = record q { bandwidth = 0 }

-- The database admits the route of the placement: it has a walk of the placement's request with
-- bandwidth 0, along the links that the placement keeps of its route.
pub record AdmitsRoute (d : Database) (p : Placement) : Type 0 where
  pub walk : List Link
  pub is_walk : IsWalk d (without_bandwidth p.request) walk
  pub along : map passed_of walk ≡ p.route

-- The database `before` admits the route of the placement, and the database `after` doesn't.
pub record IsLost (before after : Database) (p : Placement) : Type 0 where
  pub admitted : AdmitsRoute before p
  pub broken : ¬ AdmitsRoute after p

-- `p` precedes `r` in the list of lost placements if the holding priority of `p` is less important
-- (a greater number). If the holding priorities are equal, `p` precedes `r` if `p` has the lower
-- id.
abbrev pub ComesBefore : Placement → Placement → Type 0
ComesBefore p r = (r.hold < p.hold) ⊎ ((r.hold ≡ p.hold) × (id_of p < id_of r))

-- `ids` has the ids of the placements whose routes are lost, each once, in the order of
-- `ComesBefore`.
pub record AreLost (before after : Database) (placements : List Placement) (ids : List ℕ) : Type 0 where
  pub lost : List Placement
  pub members : (p : Placement) → Contains lost p ↔ (Contains placements p × IsLost before after p)
  pub order : AllPairs ComesBefore lost
  pub are : ids ≡ map id_of lost
