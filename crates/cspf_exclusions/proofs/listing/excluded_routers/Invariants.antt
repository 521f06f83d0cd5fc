use Rattle.std.proofs.Common.{ℕ, take}
use Rattle.cspf_exclusions.specs.Exclusions.{IsExcludedRouter}
use Rattle.cspf_exclusions.proofs.ListedItems.{AreListed}
use Rattle.cspf_exclusions.proofs.listing.excluded_routers.Given as goal

abbrev pub invariant-loop-router : goal.invariant-loop-router
invariant-loop-router l =
    AreListed (IsExcludedRouter l.table l.parts) (IsExcludedRouter l.table l.parts) (λ (r : ℕ). r) (take l.router-index l.all) l.routers.items
