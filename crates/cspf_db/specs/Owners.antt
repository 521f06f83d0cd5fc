-- The indexes of a database's routers that own a prefix (`Owns`).
use Rattle.std.specs.Prelude.{◌<◌, ◌↔◌, ℕ, List, All, Contains, length, slice_index}
use Rattle.std.specs.List.Sorted.{IsStrictlyIncreasing}
use Rattle.cspf_addr.specs.PrefixParts.{PrefixParts}
use Rattle.cspf_model.specs.Database.{Database}
use Rattle.cspf_columns.specs.Index.{router_list}
use Rattle.cspf_model.specs.Targets.{Owns}

-- `places` has the indexes in `router_list` of exactly the routers that own the prefix (`Owns`).
-- The indexes are in increasing order.
pub record AreOwners (d : Database) (prefix : PrefixParts) (places : List ℕ) : Type 0 where
  pub within : All (λ at. at < length (router_list d)) places
  pub each : (at : ℕ) → at < length (router_list d) → Contains places at ↔ Owns d prefix (slice_index (router_list d) at)
  pub rising : IsStrictlyIncreasing places
