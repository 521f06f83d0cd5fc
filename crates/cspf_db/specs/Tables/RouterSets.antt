-- Private: sets of routers that are stored in arrays of fixed size.
use Rattle.std.specs.Prelude.{◌≡◌, ◌≤◌, take, length}
use Rattle.std.specs.Ordering.{nat_cmp, eq_by_cmp}
use Rattle.std.specs.List.{IsDistinct}
use Rattle.std.specs.FinSet.{FinSet, from_list}
use Rattle.cspf_db.specs.declared.table.fit.router_set.TheConstants.{SLOTS}
use Rattle.cspf_db.specs.declared.table.fit.router_set.Routers.TheInside.{Inside}
use Rattle.cspf_model.specs.declared.limits.TheConstants.{MOST_ROUTERS}

-- the set of routers that the arrays represent: the first `count` numbers of `found`
abbrev pub routers_in : Inside → FinSet nat_cmp
routers_in a = from_list (take a.count a.found)

-- The arrays have their fixed sizes. The first `count` numbers of `found` are different, and
-- `count` is at most 1,024.
pub record AreRouters (a : Inside) : Type 0 where
  pub room : length a.found ≡ MOST_ROUTERS
  pub slots : length a.places ≡ SLOTS
  pub most : a.count ≤ MOST_ROUTERS
  pub once : IsDistinct (eq_by_cmp nat_cmp) (take a.count a.found)
