-- How a walk is cut into legs: one leg to each hop, and one to the tail-end.
use Rattle.std.specs.Prelude.{◌≡◌, ℕ, suc, List, [], ◌∷◌, length}
use Rattle.std.specs.List.{AllByRecursion, flat_map}
use Rattle.cspf_model.specs.declared.link.Link.{Link}
use Rattle.cspf_model.specs.declared.request.Request.{Request}
use Rattle.cspf_model.specs.Database.{Database}
use Rattle.cspf_model.specs.Walks.{end_of, routers_of}
use Rattle.cspf_model.specs.Targets.{IsTarget, IsInside}

-- The links, which begin at `router`, are the leg with the number `leg`. They end at a target of
-- the leg, and visit only routers inside the leg. A leg may have no links.
pub record IsLeg (d : Database) (q : Request) (leg router : ℕ) (links : List Link) : Type 0 where
  pub arrives : IsTarget d q leg (end_of router links)
  pub within : AllByRecursion (IsInside d q leg) (routers_of router links)

-- The lists of links are consecutive legs, and `leg` is the number of the first leg. The first leg
-- begins at `router`, and each other leg begins where the leg before it ends.
abbrev pub AreLegs : Database → Request → ℕ → ℕ → List (List Link) → Type 0
AreLegs d q leg router [] = Unit {0}
AreLegs d q leg router (links ∷ rest) =
    IsLeg d q leg router links × AreLegs d q (suc leg) (end_of router links) rest

-- The walk consists of these legs in this order: one leg to each hop, in the order of the hops, and
-- one to the tail-end.
pub record IsCutInto (d : Database) (q : Request) (walk : List Link) (legs : List (List Link))
    : Type 0 where
  pub number : length legs ≡ suc (length q.hops)
  pub whole : flat_map (λ links. links) legs ≡ walk
  pub each : AreLegs d q 1 q.from legs
