-- The list of a database's routers, and the index of a router in this list.
use Rattle.std.specs.Prelude.{◌≡◌, ℕ, ◌<◌, ◌≤◌, ◌↔◌, Contains, length, slice_index}
use Rattle.std.specs.List.Sorted.{IsStrictlyIncreasing}
use Rattle.cspf_model.specs.declared.limits.TheConstants.{MOST_LINKS, MOST_ROUTERS}
use Rattle.cspf_model.specs.Database.{Database, IsRouterOf}
use Rattle.cspf_db.specs.Index.{router_list, links_of}

-- The router with the index `p` in the list of routers.
abbrev pub router_at : Database → ℕ → ℕ
router_at d p = slice_index (router_list d) p

-- `place` is the index of the router in the list of routers.
pub record IsIndexOf (d : Database) (router : ℕ) (place : ℕ) : Type 0 where
  pub within : place < length (router_list d)
  pub is : slice_index (router_list d) place ≡ router

-- The list of routers has exactly the routers of the database, in increasing order. There are at
-- most `MOST_ROUTERS` routers and `MOST_LINKS` links.
pub record AreListed (d : Database) : Type 0 where
  pub known : (router : ℕ) → Contains (router_list d) router ↔ IsRouterOf d router
  pub rising : IsStrictlyIncreasing (router_list d)
  pub few : length (router_list d) ≤ MOST_ROUTERS
  pub room : length (links_of d) ≤ MOST_LINKS
