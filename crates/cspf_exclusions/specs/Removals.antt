-- Private: the changes that remove the excluded links.
use Rattle.std.specs.Prelude.{◌≡◌, ◌⊎◌, ℕ, List, All, Contains}
use Rattle.cspf_model.specs.declared.link.Link.{Link}
use Rattle.cspf_model.specs.declared.batch.Change.{Change}
use Rattle.cspf_model.specs.declared.batch.Change.TheVariants.{Remove}
use Rattle.cspf_model.specs.Database.{Database, IsLinkOf, AreAtTheirKeys}
use Rattle.cspf_exclusions.specs.declared.exclusion.Exclusion.{Exclusion}
use Rattle.cspf_exclusions.specs.Exclusions.{IsExcluded, IsExcludedInterface}

-- the link is excluded, if the exclusions name these routers
abbrev pub IsExcludedAmong : List Exclusion → List ℕ → Link → Type 0
IsExcludedAmong parts routers l =
    (Contains routers l.from ⊎ Contains routers l.to)
    ⊎ (IsExcludedInterface parts l.local ⊎ IsExcludedInterface parts l.remote)

-- the change that removes this link
abbrev pub removal_of : Link → Change
removal_of l = Remove l.from l.local

-- the change removes an excluded link of the database
abbrev pub IsRemoval : Database → List Exclusion → Change → Type 0
IsRemoval d parts c = (l : Link) × IsLinkOf d l × IsExcluded d parts l × (c ≡ removal_of l)

-- The changes remove excluded links of the database, and all of them. Each link of the database is
-- stored at its own key.
pub record AreRemovals (d : Database) (parts : List Exclusion) (changes : List Change) : Type 0 where
  pub keyed : AreAtTheirKeys d
  pub each : All (IsRemoval d parts) changes
  pub whole : (l : Link) → IsLinkOf d l → IsExcluded d parts l → Contains changes (removal_of l)
