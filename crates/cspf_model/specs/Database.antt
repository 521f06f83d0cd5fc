-- Definition of a traffic engineering database: its links, its routers, and the routers that it
-- marks as without transit.
use Rattle.std.specs.Prelude.{◌≡◌, ℕ, ◌⊎◌, IsTrue, Option, Some, List, [], ◌∷◌, All, Contains, map}
use Rattle.std.specs.Ordering.{nat_cmp, eq_by_cmp, ordering_then}
use Rattle.std.specs.declared.cmp.Ordering.{Ordering}
use Rattle.std.specs.List.{flat_map, IsDistinct}
use Rattle.std.specs.FinMap as map
use Rattle.std.specs.FinSet as set
use Rattle.cspf_model.specs.declared.link.Link.{Link}

-- The key of a link in a database: the router at which the link begins, and the address of the
-- link's interface at this router.
abbrev pub Key : Type 0
Key = ℕ × ℕ

-- The key of this link.
abbrev pub key_of : Link → Key
key_of l = (l.from, l.local)

-- Keys are ordered by router. Keys with the same router are ordered by interface address.
abbrev pub key_cmp : Key → Key → Ordering
key_cmp a b = ordering_then (nat_cmp a.0 b.0) (nat_cmp a.1 b.1)

-- A traffic engineering database. `links` maps each key to a link, and `marks` is the set of the
-- Router IDs that are marked as without transit.
pub record Database : Type 0 where
  pub links : map.FinMap key_cmp Link
  pub marks : set.FinSet nat_cmp

-- The link with this key, if the database has one.
abbrev pub link_at : Database → Key → Option Link
link_at d k = map.get d.links k

-- The router is marked as without transit, so no route may pass through it (a stub router of RFC
-- 6987). A Router ID may be marked although no link begins or ends at it. It is then no router of
-- the database.
abbrev pub IsMarked : Database → ℕ → Type 0
IsMarked d router = IsTrue (set.contains d.marks router)

-- The router isn't marked, so routes may pass through it.
abbrev pub HasTransit : Database → ℕ → Type 0
HasTransit d router = ¬ IsMarked d router

-- The number of Router IDs that the database marks as without transit.
abbrev pub mark_count : Database → ℕ
mark_count d = set.len d.marks

-- The database has the link.
abbrev pub IsLinkOf : Database → Link → Type 0
IsLinkOf d l = link_at d (key_of l) ≡ Some l

-- `r` is the reverse of `l`: it joins the same two interfaces in the other direction. `r` begins at
-- the router and the interface where `l` ends, and ends where `l` begins.
pub record IsReverse (l r : Link) : Type 0 where
  pub from : r.from ≡ l.to
  pub local : r.local ≡ l.remote
  pub to : r.to ≡ l.from
  pub remote : r.remote ≡ l.local

-- The database has the reverse of the link. The metric, groups and bandwidths of the reverse don't
-- matter.
abbrev pub HasReverse : Database → Link → Type 0
HasReverse d l = (r : Link) × IsLinkOf d r × IsReverse l r

-- The number of links in the database.
abbrev pub link_count : Database → ℕ
link_count d = map.len d.links

-- Each link of the database is stored at the link's own key.
abbrev pub AreAtTheirKeys : Database → Type 0
AreAtTheirKeys d = (k : Key) (l : Link) → link_at d k ≡ Some l → key_of l ≡ k

-- The list `rows` has exactly the links of the database.
pub record AreLinksOf (d : Database) (rows : List Link) : Type 0 where
  pub each : All (IsLinkOf d) rows
  pub whole : (l : Link) → IsLinkOf d l → Contains rows l

-- No two links have the same key.
abbrev pub HaveOwnKeys : List Link → Type 0
HaveOwnKeys rows = IsDistinct (eq_by_cmp key_cmp) (map key_of rows)

-- The link begins or ends at the router.
abbrev pub EndsAt : ℕ → Link → Type 0
EndsAt router l = (l.from ≡ router) ⊎ (l.to ≡ router)

-- The router is a router of the database: some link of the database begins or ends at the router.
abbrev pub IsRouterOf : Database → ℕ → Type 0
IsRouterOf d router = (l : Link) × IsLinkOf d l × EndsAt router l

-- For each link in turn, the router at which the link begins and the router at which it ends.
abbrev pub ends_of : List Link → List ℕ
ends_of links = flat_map (λ l. l.from ∷ l.to ∷ []) links

-- The set of all routers at which links of the database begin or end.
abbrev pub all_routers : Database → set.FinSet nat_cmp
all_routers d = set.from_list (ends_of (map.values d.links))

-- The number of routers in the database.
abbrev pub router_count : Database → ℕ
router_count d = set.len (all_routers d)
