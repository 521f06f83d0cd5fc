-- Laws of excluded links.
use Rattle.std.specs.Prelude.{◌≡◌, ◌↔◌, List, []}
use Rattle.std.specs.List.{AllByRecursion}
use Rattle.cspf_model.specs.declared.link.Link.{Link}
use Rattle.cspf_model.specs.declared.request.Request.{Request}
use Rattle.cspf_model.specs.Database.{Database, IsReverse, AreAtTheirKeys}
use Rattle.cspf_model.specs.Walks.{IsWalk}
use Rattle.cspf_exclusions.specs.declared.exclusion.Exclusion.{Exclusion}
use Rattle.cspf_exclusions.specs.Exclusions.{IsExcluded, IsWithout}

-- A link is excluded exactly if its reverse is.
abbrev pub IsExcludedWithReverse : Type 0
IsExcludedWithReverse =
    (d : Database) (parts : List Exclusion) (l r : Link) → IsReverse l r
    → IsExcluded d parts l ↔ IsExcluded d parts r

-- The walks in the database without the excluded links are exactly the walks in the whole database
-- that have no excluded link.
abbrev pub AreWalksWithout : Type 0
AreWalksWithout =
    (d e : Database) (q : Request) (parts : List Exclusion) (walk : List Link) → IsWithout d parts e
    → IsWalk e q walk ↔ (IsWalk d q walk × AllByRecursion (λ l. ¬ IsExcluded d parts l) walk)

-- If nothing is excluded, the database without the excluded links is the whole database.
abbrev pub IsWholeWithoutNone : Type 0
IsWholeWithoutNone = (d : Database) → AreAtTheirKeys d → (e : Database) → IsWithout d [] e ↔ (e ≡ d)

-- There is only one database without the excluded links.
abbrev pub OneDatabaseWithout : Type 0
OneDatabaseWithout =
    (d e f : Database) (parts : List Exclusion) → IsWithout d parts e → IsWithout d parts f → e ≡ f
