-- At which routers a leg of a route may end, and which routers a leg may visit (RFC 3209 4.3.3).
use Rattle.std.specs.Prelude.{◌≡◌, ℕ, zero, suc, ◌⊎◌, Option, Some, None, IsTrue, slice_get}
use Rattle.cspf_addr.specs.PrefixParts.{PrefixParts}
use Rattle.cspf_addr.specs.Prefixes.{Covers}
use Rattle.cspf_addr.specs.declared.hop.Hop.{Hop}
use Rattle.cspf_model.specs.declared.link.Link.{Link}
use Rattle.cspf_model.specs.declared.request.Request.{Request}
use Rattle.cspf_model.specs.Database.{Database, IsLinkOf, IsRouterOf}

-- The link begins at the router, and the prefix covers the address of the link's interface at this
-- router.
pub record BeginsWithin (prefix : PrefixParts) (router : ℕ) (l : Link) : Type 0 where
  pub from : l.from ≡ router
  pub local : Covers prefix l.local

-- The prefix covers an address of the router. This address is the Router ID, or the address of the
-- router's interface on a link of the database that begins at the router. The link needn't be
-- admissible.
abbrev pub CoversAddressOf : Database → PrefixParts → ℕ → Type 0
CoversAddressOf d prefix router =
    Covers prefix router ⊎ ((l : Link) × IsLinkOf d l × BeginsWithin prefix router l)

-- The router owns the prefix: it is a router of the database, and the prefix covers one of its
-- addresses.
pub record Owns (d : Database) (prefix : PrefixParts) (router : ℕ) : Type 0 where
  pub known : IsRouterOf d router
  pub covered : CoversAddressOf d prefix router

-- A target of the leg to a hop is a router of the database with an address in the hop's prefix. The
-- only target of the leg after the last hop is the tail-end.
abbrev pub IsTargetOf : Database → ℕ → Option Hop → ℕ → Type 0
IsTargetOf d to (Some hop) router = Owns d hop.prefix router
IsTargetOf d to None router = router ≡ to

-- The router is a target of a leg. The only target of leg 0, before the first hop, is the head-end.
-- The targets of leg i are the routers of the database with an address in the prefix of hop i,
-- where the first hop is hop 1. The only target of the leg after the last hop is the tail-end.
abbrev pub IsTarget : Database → Request → ℕ → ℕ → Type 0
IsTarget d q zero router = router ≡ q.from
IsTarget d q (suc i) router = IsTargetOf d q.to (slice_get q.hops i) router

-- The leg is loose: it leads to a loose hop, or it is the leg after the last hop.
abbrev pub IsLoose : Option Hop → Type 0
IsLoose (Some hop) = IsTrue hop.loose
IsLoose None = Unit {0}

-- The router is inside the leg, so the leg may visit it. All routers are inside a loose leg. The
-- routers inside a strict leg are the targets of this leg (routers where it may end) and the
-- targets of the leg before it.
abbrev pub IsInside : Database → Request → ℕ → ℕ → Type 0
IsInside d q zero router = ⊥
IsInside d q (suc i) router =
    IsLoose (slice_get q.hops i) ⊎ (IsTarget d q i router ⊎ IsTarget d q (suc i) router)
