-- Which links of a database are excluded, and the database without them.
use Rattle.std.specs.Prelude.{◌≡◌, ◌⊎◌, ◌↔◌, ℕ, List, Contains}
use Rattle.cspf_addr.specs.Prefixes.{Covers}
use Rattle.cspf_model.specs.declared.link.Link.{Link}
use Rattle.cspf_model.specs.Database.{Database, IsLinkOf, AreAtTheirKeys}
use Rattle.cspf_model.specs.Targets.{Owns}
use Rattle.cspf_exclusions.specs.declared.exclusion.Exclusion.{Exclusion}
use Rattle.cspf_exclusions.specs.declared.exclusion.ExclusionKind.TheVariants.{Interface, Router}

-- The exclusion names the address of an interface: it is of the kind `Interface`, and its prefix
-- covers the address.
abbrev pub NamesInterface : Exclusion → ℕ → Type 0
NamesInterface part address = (part.kind ≡ Interface) × Covers part.prefix address

-- The exclusion names a router of the database: it is of the kind `Router`, and the router owns its
-- prefix.
abbrev pub NamesRouter : Database → Exclusion → ℕ → Type 0
NamesRouter d part router = (part.kind ≡ Router) × Owns d part.prefix router

-- One of the exclusions names the address of an interface.
abbrev pub IsExcludedInterface : List Exclusion → ℕ → Type 0
IsExcludedInterface parts address = (part : Exclusion) × Contains parts part × NamesInterface part address

-- One of the exclusions names the router.
abbrev pub IsExcludedRouter : Database → List Exclusion → ℕ → Type 0
IsExcludedRouter d parts router = (part : Exclusion) × Contains parts part × NamesRouter d part router

-- The link is excluded: the exclusions name the router at which it begins or ends, or the address of
-- its interface at one of these routers.
abbrev pub IsExcluded : Database → List Exclusion → Link → Type 0
IsExcluded d parts l =
    (IsExcludedRouter d parts l.from ⊎ IsExcludedRouter d parts l.to)
    ⊎ (IsExcludedInterface parts l.local ⊎ IsExcludedInterface parts l.remote)

-- The database `e` is the database `d` without the links that are excluded. It has the same marks.
pub record IsWithout (d : Database) (parts : List Exclusion) (e : Database) : Type 0 where
  pub links : (l : Link) → IsLinkOf e l ↔ (IsLinkOf d l × ¬ IsExcluded d parts l)
  pub keyed : AreAtTheirKeys e
  pub marks : e.marks ≡ d.marks
