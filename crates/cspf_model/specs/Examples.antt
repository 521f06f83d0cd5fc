-- Two small networks, and which of their walks are routes.
use Rattle.std.specs.Prelude.{◌≡◌, ◌≢◌, ℕ, ◌+◌, ◌*◌, Bool, true, false, List, [], ◌∷◌, ◌++◌, eqb, map, replicate, refl}
use Rattle.std.specs.declared.cmp.Ordering.TheVariants.{Less}
use Rattle.std.proofs.Common.{sym}
use Rattle.std.proofs.lemmas.Bool.{eqb-false}
use Rattle.cspf_addr.specs.declared.hop.Hop.{Hop}
use Rattle.std.specs.FinSet as set
use Rattle.cspf_model.specs.declared.link.Link.{Link}
use Rattle.cspf_model.specs.declared.request.Request.{Request}
use Rattle.cspf_model.specs.Database.{Database, AreLinksOf}
use Rattle.cspf_model.specs.Admissible.{IsAdmissible}
use Rattle.cspf_model.specs.Walks.{walk_cmp}
use Rattle.cspf_model.specs.Routes.{IsRoute}
use Rattle.cspf_model.specs.Fields.{RequestFields, HasRequestFields}

-- The address with these four bytes.
abbrev pub address : ℕ → ℕ → ℕ → ℕ → ℕ
address a b c d = ((a * 256 + b) * 256 + c) * 256 + d

-- The Router ID n.n.n.n, such as 1.1.1.1.
abbrev pub router : ℕ → ℕ
router n = address n n n n

-- The Router ID 10.9.0.n, such as 10.9.0.1.
abbrev pub inner : ℕ → ℕ
inner n = address 10 9 0 n

-- A link with the same unreserved bandwidth at each priority.
abbrev pub link : (from local to remote metric bandwidth : ℕ) → from ≢ to → Link
link from local to remote metric bandwidth apart = record {
  from = from;
  local = local;
  to = to;
  remote = remote;
  metric = metric;
  group = 1;
  free = replicate 8 bandwidth;
  eight = refl;
  two_ends = apart;
}

-- A request from 1.1.1.1 for 1 byte per second at the highest setup priority, without affinities.
abbrev pub asked_fields : ℕ → List Hop → RequestFields
asked_fields to hops = record {
  id = 1;
  from = router 1;
  to = to;
  setup = 0;
  bandwidth = 1;
  exclude_any = 0;
  include_any = 0;
  include_all = 0;
  hops = hops;
}

-- The hop to the prefix with the address `first` and the length `length`.
abbrev pub hop : ℕ → ℕ → Bool → Hop
hop first length loose =
    record { prefix = record { address = first; length = length }; loose = loose }

-- A link of this metric between two routers, with the interface addresses 10.0.n.x and 10.0.n.y.
abbrev pub link_by : (from to metric n x y : ℕ) → eqb from to ≡ false → Link
link_by from to metric n x y apart =
    link from (address 10 0 n x) to (address 10 0 n y) metric 1000 (eqb-false from to apart)

-- The reverse of a link, without unreserved bandwidth. A link is usable even if its reverse isn't
-- admitted.
abbrev pub back : Link → Link
back l = link l.to l.remote l.from l.local l.metric 0 (λ same. l.two_ends (sym same))

-- These links, and the reverse of each.
abbrev pub both_ways : List Link → List Link
both_ways links = links ++ map back links

-- The first network has three ways from 1.1.1.1 to 10.9.0.1: one directly, one over 3.3.3.3, and
-- one over 10.9.0.2. From 10.9.0.1 a link leads on to 4.4.4.4. This link leads directly from
-- 1.1.1.1 to 10.9.0.1, and its metric is 10.
abbrev pub from_1_to_inner_1 : Link
from_1_to_inner_1 = link_by (router 1) (inner 1) 10 2 1 2 refl

-- The link from 10.9.0.1 to 4.4.4.4, of metric 1.
abbrev pub from_inner_1_to_4 : Link
from_inner_1_to_4 = link_by (inner 1) (router 4) 1 5 1 4 refl

-- The link from 1.1.1.1 to 3.3.3.3, of metric 1.
abbrev pub from_1_to_3 : Link
from_1_to_3 = link_by (router 1) (router 3) 1 1 1 3 refl

-- The link from 3.3.3.3 to 10.9.0.1, of metric 1.
abbrev pub from_3_to_inner_1 : Link
from_3_to_inner_1 = link_by (router 3) (inner 1) 1 4 3 1 refl

-- The way from 1.1.1.1 to 4.4.4.4 over 3.3.3.3, a router outside of 10.9.0.0/16.
abbrev pub way_outside : List Link
way_outside = from_1_to_3 ∷ from_3_to_inner_1 ∷ from_inner_1_to_4 ∷ []

-- The link from 1.1.1.1 to 10.9.0.2, of metric 2.
abbrev pub from_1_to_inner_2 : Link
from_1_to_inner_2 = link_by (router 1) (inner 2) 2 3 1 2 refl

-- The link from 10.9.0.2 to 10.9.0.1, of metric 3.
abbrev pub from_inner_2_to_inner_1 : Link
from_inner_2_to_inner_1 = link_by (inner 2) (inner 1) 3 6 2 1 refl

-- The links of the first network, without their reverses.
abbrev pub six_links : List Link
six_links =
    from_1_to_3 ∷ from_1_to_inner_1 ∷ from_1_to_inner_2 ∷ from_3_to_inner_1
    ∷ from_inner_1_to_4 ∷ from_inner_2_to_inner_1 ∷ []

-- The way from 1.1.1.1 to 4.4.4.4 over 10.9.0.2, a router inside 10.9.0.0/16.
abbrev pub way_inside : List Link
way_inside = from_1_to_inner_2 ∷ from_inner_2_to_inner_1 ∷ from_inner_1_to_4 ∷ []

-- The strict hop to 10.9.0.0/16.
abbrev pub inner_hop : Hop
inner_hop = hop (address 10 9 0 0) 16 false

-- The loose hop to 10.9.0.0/16.
abbrev pub loose_inner_hop : Hop
loose_inner_hop = hop (address 10 9 0 0) 16 true

-- The strict hop to 1.1.1.1/32.
abbrev pub first_router_hop : Hop
first_router_hop = hop (router 1) 32 false

-- The second network has one way from 1.1.1.1 over 2.2.2.2 to 3.3.3.3, and a link from 2.2.2.2 to
-- 4.4.4.4 without unreserved bandwidth. This link leads from 1.1.1.1 to 2.2.2.2.
abbrev pub from_1_to_2 : Link
from_1_to_2 = link_by (router 1) (router 2) 10 12 1 2 refl

-- The link from 2.2.2.2 to 3.3.3.3.
abbrev pub from_2_to_3 : Link
from_2_to_3 = link_by (router 2) (router 3) 10 23 2 3 refl

-- The link from 2.2.2.2 to 4.4.4.4 without unreserved bandwidth. Its interface at 2.2.2.2 is
-- 172.16.0.2.
abbrev pub from_2_to_4 : Link
from_2_to_4 =
    link (router 2) (address 172 16 0 2) (router 4) (address 172 16 0 4) 10 0
    (eqb-false (router 2) (router 4) refl)

-- The links of the second network, without their reverses.
abbrev pub three_links : List Link
three_links = from_1_to_2 ∷ from_2_to_3 ∷ from_2_to_4 ∷ []

-- The strict hop to 172.16.0.0/12. This prefix covers 172.16.0.2, the interface of 2.2.2.2 on the
-- link without unreserved bandwidth.
abbrev pub interface_hop : Hop
interface_hop = hop (address 172 16 0 0) 12 false

-- The database has exactly these links, and marks no router as without transit.
pub record IsNetwork (d : Database) (links : List Link) : Type 0 where
  pub listed : AreLinksOf d links
  pub unmarked : d.marks ≡ set.empty

-- `P` holds of each database and request that meet two conditions. The database has exactly these
-- links, and marks no router as without transit. The request asks for a route from 1.1.1.1 to this
-- tail-end by these hops.
abbrev pub Holds : List Link → ℕ → List Hop → (Database → Request → Type 0) → Type 0
Holds links to hops P =
    (d : Database) (q : Request)
    → IsNetwork d links → HasRequestFields q (asked_fields to hops) → P d q

-- Some database has exactly these links and marks no router as without transit. For any hops, some
-- request from 1.1.1.1 to this tail-end has these hops. So a law of the form `Holds` isn't vacuous.
pub record AreFound (links : List Link) (to : ℕ) : Type 0 where
  pub database : (d : Database) × IsNetwork d links
  pub request : (hops : List Hop) → (q : Request) × HasRequestFields q (asked_fields to hops)

-- A strict leg to 10.9.0.0/16 may visit both routers whose Router IDs are in this prefix.
abbrev pub MayStandAtOwners : Type 0
MayStandAtOwners = Holds (both_ways six_links) (router 4) (inner_hop ∷ []) (λ d q. IsRoute d q way_inside)

-- A strict leg to 10.9.0.0/16 may not visit 3.3.3.3.
abbrev pub MayNotStandElsewhere : Type 0
MayNotStandElsewhere =
    Holds (both_ways six_links) (router 4) (inner_hop ∷ []) (λ d q. ¬ IsRoute d q way_outside)

-- A loose leg to 10.9.0.0/16 may visit 3.3.3.3.
abbrev pub MayStandAnywhere : Type 0
MayStandAnywhere =
    Holds (both_ways six_links) (router 4) (loose_inner_hop ∷ []) (λ d q. IsRoute d q way_outside)

-- The way over 3.3.3.3 precedes the way over 10.9.0.2 in the order of walks.
abbrev pub IsOutsideBeforeInside : Type 0
IsOutsideBeforeInside = walk_cmp way_outside way_inside ≡ Less

-- The leg to a hop may be empty if the head-end has an address in the hop's prefix.
abbrev pub MayBeEmpty : Type 0
MayBeEmpty =
    Holds (both_ways six_links) (router 4) (first_router_hop ∷ inner_hop ∷ []) (λ d q. IsRoute d q way_inside)

-- A route reaches a hop at any router with an interface address in the hop's prefix. The link of
-- this interface needn't be admissible.
abbrev pub MayBeMetByAnyLink : Type 0
MayBeMetByAnyLink =
    Holds (both_ways three_links) (router 3) (interface_hop ∷ [])
    (λ d q. IsRoute d q (from_1_to_2 ∷ from_2_to_3 ∷ []) × ¬ IsAdmissible d q from_2_to_4)
