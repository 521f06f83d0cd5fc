-- Private: databases that differ only in attributes of their links. Also: the keys at which a
-- database agrees with the effective database (the base with the bandwidth that the placements
-- leave on its links).
use Rattle.std.specs.Prelude.{◌≡◌, ◌≤◌, false, cond, List}
use Rattle.std.specs.Ordering.{eq_by_cmp}
use Rattle.std.specs.Option.{option_map}
use Rattle.cspf_book.specs.declared.path.Passed.{Passed}
use Rattle.cspf_model.specs.declared.limits.TheConstants.{MOST_LINKS, MOST_ROUTERS, MOST_MARKS}
use Rattle.cspf_model.specs.Database.{Database, Key, key_cmp, link_at, link_count, router_count, mark_count, AreAtTheirKeys}
use Rattle.cspf_book.specs.declared.placement.Placement.{Placement}
use Rattle.cspf_book.specs.Placements.{ends_of_link, has_key}
use Rattle.cspf_book.specs.Effective.{effective_link}

-- The two databases have links at the same keys, and the two links at a key run to the same router.
-- Their marks and their numbers of links are also the same. A mark says that a router carries no
-- transit.
pub record AreAlike (d e : Database) : Type 0 where
  pub marks : e.marks ≡ d.marks
  pub count : link_count e ≡ link_count d
  pub ends : (k : Key) → option_map ends_of_link (link_at e k) ≡ option_map ends_of_link (link_at d k)

-- At this key, `d` has the base's link with the bandwidths that the placements leave, or no link if
-- the base has no link. So `d` agrees with the effective database there.
abbrev pub IsCurrentAt : Database → List Placement → Database → Key → Type 0
IsCurrentAt base placements d k = link_at d k ≡ option_map (effective_link placements) (link_at base k)

-- At `key`, `new` agrees with the effective database: it has the base's link with the bandwidths
-- that the placements leave. At all other keys, `new` has the links of `old`.
abbrev pub IsCurrentNowAt : Database → List Placement → Database → Database → Key → Type 0
IsCurrentNowAt base placements old new key =
    (k : Key) → link_at new k
    ≡ cond (eq_by_cmp key_cmp k key) (option_map (effective_link placements) (link_at base k)) (link_at old k)

-- `d` agrees with the effective database (`IsCurrentAt`) at each key that isn't the key of one of
-- these links.
abbrev pub IsCurrentBut : Database → List Placement → Database → List Passed → Type 0
IsCurrentBut base placements d links =
    (k : Key) → has_key links k ≡ false → IsCurrentAt base placements d k

-- The database is within a table's limits on the numbers of links, routers and marks. Each link is
-- stored at its own key.
pub record IsWithinLimits (d : Database) : Type 0 where
  pub links : link_count d ≤ MOST_LINKS
  pub routers : router_count d ≤ MOST_ROUTERS
  pub marks : mark_count d ≤ MOST_MARKS
  pub keyed : AreAtTheirKeys d
