-- A database's links in order, its routers in order, and the links that begin at each router.
use Rattle.std.specs.Prelude.{◌≡◌, ◌≢◌, ◌<◌, ℕ, List, map, filter, length, nat_eq, slice_index, slice_index_or}
use Rattle.std.specs.Ordering.{nat_cmp}
use Rattle.std.specs.FinMap as finite
use Rattle.cspf_model.specs.declared.link.Link.{Link}
use Rattle.cspf_columns.specs.declared.limits.TheConstants.{NO_LINK}
use Rattle.cspf_model.specs.Database.{Database, HasReverse, IsReverse, ends_of}

-- the links of a database, in order of their keys
abbrev pub links_of : Database → List Link
links_of d = finite.values d.links

-- a map entry with the number as its key, and no value
abbrev pub with_nothing : ℕ → ℕ × Unit {0}
with_nothing n = (n, tt)

-- the set of the numbers in a list
abbrev pub numbers_in : List ℕ → finite.FinMap nat_cmp (Unit {0})
numbers_in ns = finite.from_entries {R = nat_cmp} (map with_nothing ns)

-- the routers of a database in increasing order, each listed once
unfoldable pub router_list : Database → List ℕ
router_list d = finite.keys (numbers_in (ends_of (links_of d)))

-- the links that begin at a router, in order of their local addresses
abbrev pub links_from : Database → ℕ → List Link
links_from d router = filter (λ l. nat_eq l.from router) (links_of d)

-- the links that begin at the router with the index `at` in `router_list`
abbrev pub links_from_index : Database → ℕ → List Link
links_from_index d at = links_from d (slice_index (router_list d) at)

-- The number `n` is the index of the link's reverse among the links of the database, or `NO_LINK`
-- if the database has no reverse of the link.
pub record IsReverseAt (d : Database) (l : Link) (n : ℕ) : Type 0 where
  pub within : n ≢ NO_LINK → n < length (links_of d)
  pub found : n ≢ NO_LINK → IsReverse l (slice_index_or (links_of d) n l)
  pub none : n ≡ NO_LINK → ¬ HasReverse d l
