-- Private: the sum of the excesses of some links.
use Rattle.std.specs.Prelude.{◌≡◌, ℕ, ◌≤◌, ◌⊎◌, List, Contains, sum_by}
use Rattle.cspf_model.specs.declared.link.Link.{Link}
use Rattle.cspf_model.specs.declared.request.Request.{Request}
use Rattle.cspf_model.specs.Database.{Database}
use Rattle.cspf_pair.specs.Potentials.{Potentials, Weights, MayBeUsed, link_excess}

-- `total` is at least the excess of all links among `rows` that a way may have.
pub record BoundsExcessAmong (d : Database) (q : Request) (y : Potentials) (w : Weights) (rows : List Link) (total : ℕ) : Type 0 where
  pub links : List Link
  pub each : (l : Link) → MayBeUsed d q l → Contains rows l → Contains links l
  pub sum : sum_by (link_excess y w) links ≤ total

-- The number is the excess of the link, or a way can't have the link.
abbrev pub IsExcessIfUsed : Database → Request → Potentials → Weights → Link → ℕ → Type 0
IsExcessIfUsed d q y w l excess = (excess ≡ link_excess y w l) ⊎ (¬ MayBeUsed d q l)
