-- Potentials of routers, weights of links and routers, and excesses: by how much a potential rises
-- above a weight.
use Rattle.std.specs.Prelude.{◌≡◌, ℕ, ◌+◌, ◌-◌, ◌*◌, ◌^◌, ◌≤◌, ◌⊎◌, Bool, ◌&&◌, List, Contains, nat_eq, sum_by, cond}
use Rattle.cspf_model.specs.declared.link.Link.{Link}
use Rattle.cspf_model.specs.declared.request.Request.{Request}
use Rattle.cspf_model.specs.Database.{Database, HasTransit, IsRouterOf}
use Rattle.cspf_model.specs.Admissible.{IsAdmissible}
use Rattle.cspf_model.specs.Walks.{routers_passed}
use Rattle.cspf_pair.specs.declared.kind.Kind.{Kind}
use Rattle.cspf_pair.specs.declared.kind.Kind.TheVariants.{Circuits, Routers}

-- Each router has two potentials: one where links arrive at it, and one where links leave it.
pub record Potentials : Type 0 where
  pub arriving : ℕ → ℕ
  pub leaving : ℕ → ℕ

-- The two potentials of a router may differ only if the ways must not share routers.
abbrev pub AreOfKind : Kind → Potentials → Type 0
AreOfKind Circuits y = (router : ℕ) → y.leaving router ≡ y.arriving router
AreOfKind Routers y = Unit {0}

-- A weight for each link, and one for each router.
pub record Weights : Type 0 where
  pub of_link : Link → ℕ
  pub of_router : ℕ → ℕ

-- By these weights, the metric decides, and then the number of links, as long as there are fewer
-- than 2^15 links.
abbrev pub by_size : Weights
by_size = record { of_link = λ l. l.metric * 2 ^ 15 + 1; of_router = λ _. 0 }

-- Nothing has a weight.
abbrev pub without_weight : Weights
without_weight = record { of_link = λ _. 0; of_router = λ _. 0 }

-- The number 1 if the test passes, and 0 otherwise.
abbrev pub one_if : Bool → ℕ
one_if b = cond b 1 0

-- Whether the two links have the same key: they begin at the same interface of the same router.
abbrev pub have_same_key : Link → Link → Bool
have_same_key l m = nat_eq l.from m.from && nat_eq l.local m.local

-- Only a link with the key of `l` has a weight, which is 1.
abbrev pub by_link : Link → Weights
by_link l = record { of_link = λ m. one_if (have_same_key l m); of_router = λ _. 0 }

-- Only this router has a weight, which is 1.
abbrev pub by_router : ℕ → Weights
by_router router = record { of_link = λ _. 0; of_router = λ other. one_if (nat_eq router other) }

-- The weight of a way: the weights of its links, and of the routers that it passes through.
abbrev pub weight_of : Weights → List Link → ℕ
weight_of w way = sum_by w.of_link way + sum_by w.of_router (routers_passed way)

-- The excess of a link: by how much the potential rises over the link, above the link's weight.
abbrev pub link_excess : Potentials → Weights → Link → ℕ
link_excess y w l = y.arriving l.to - (y.leaving l.from + w.of_link l)

-- The excess of a router: by how much the potential rises within the router, above the router's
-- weight.
abbrev pub router_excess : Potentials → Weights → ℕ → ℕ
router_excess y w router = y.leaving router - (y.arriving router + w.of_router router)

-- A way may have the link: the link is admissible, and begins at the head-end or at a router with
-- transit.
pub record MayBeUsed (d : Database) (q : Request) (l : Link) : Type 0 where
  pub admissible : IsAdmissible d q l
  pub leaves : (l.from ≡ q.from) ⊎ HasTransit d l.from

-- `total` is at least the excess of all links that a way may have and of all routers.
pub record BoundsExcess (d : Database) (q : Request) (y : Potentials) (w : Weights) (total : ℕ) : Type 0 where
  pub links : List Link
  pub routers : List ℕ
  pub each_link : (l : Link) → MayBeUsed d q l → Contains links l
  pub each_router : (router : ℕ) → IsRouterOf d router → Contains routers router
  pub sum : sum_by (link_excess y w) links + sum_by (router_excess y w) routers ≤ total
