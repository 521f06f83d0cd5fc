-- The routes of the two networks of `specs/Examples`.
use Rattle.std.proofs.Common.{◌≡◌, ◌≢◌, ℕ, ◌<◌, List, [], ◌∷◌, refl, sym, ap, ◌∙◌, subst, inl, inr, lit<, arith, rules}
use mathlib.Core.Bool.{true≢false}
use Rattle.std.specs.Ordering.{nat_cmp}
use Rattle.std.specs.FinSet as set
use Rattle.std.specs.List.{AllByRecursion, IsDistinct}
use Rattle.std.proofs.lemmas.Bool.{eqb-false}
use Rattle.std.proofs.lemmas.List.Elements.{All-contains, All-from_recursion, recursion_from_All}
use Rattle.cspf_addr.specs.declared.hop.Hop.{Hop}
use Rattle.cspf_model.specs.declared.link.Link.{Link}
use Rattle.cspf_model.specs.declared.request.Request.{Request}
use Rattle.cspf_model.specs.Database.{Database, AreLinksOf, IsLinkOf, HaveOwnKeys, HasTransit}
use Rattle.cspf_model.specs.Admissible.{IsAdmitted, IsAdmissible}
use Rattle.cspf_model.specs.Fields.{RequestFields, HasRequestFields}
use Rattle.cspf_model.proofs.Routes.FieldRecords.{requests_said}
use Rattle.cspf_model.specs.Walks.{IsWalk}
use Rattle.cspf_model.specs.Targets.{Owns, IsInside}
use Rattle.cspf_model.specs.Legs.{IsCutInto}
use Rattle.cspf_model.specs.Routes.{IsRoute}
use Rattle.cspf_model.specs.Lemmas.LinkRows.{database_of}
use Rattle.cspf_model.proofs.Databases.LinksOfRows.{rows_listed}
use Rattle.cspf_model.specs.Examples.{router, inner, link, back, both_ways, asked_fields, from_1_to_3, from_1_to_inner_1, from_1_to_inner_2, from_3_to_inner_1, from_inner_1_to_4, from_inner_2_to_inner_1, six_links, way_outside, way_inside, inner_hop, loose_inner_hop, first_router_hop, from_1_to_2, from_2_to_3, from_2_to_4, three_links, interface_hop, IsNetwork, AreFound, MayStandAtOwners, MayNotStandElsewhere, MayStandAnywhere, IsOutsideBeforeInside, MayBeEmpty, MayBeMetByAnyLink}

-- The request with these fields.
abbrev pub made : (f : RequestFields) → f.setup < 8 → f.from ≢ f.to → Request
made f priority two_ends = record {
  id = f.id;
  from = f.from;
  to = f.to;
  setup = f.setup;
  bandwidth = f.bandwidth;
  exclude_any = f.exclude_any;
  include_any = f.include_any;
  include_all = f.include_all;
  hops = f.hops;
  priority = priority;
  two_ends = two_ends;
}

-- If `P` holds of the request that `made` builds from these fields, `P` holds of each request with
-- these fields.
pub for_each : (f : RequestFields) (P : Request → Type 0)
    → ((priority : f.setup < 8) (two_ends : f.from ≢ f.to) → P (made f priority two_ends))
    → (q : Request) → HasRequestFields q f → P q
for_each f P holds q says =
    let Q : RequestFields → Type 0 = λ g. (priority : g.setup < 8) (two_ends : g.from ≢ g.to) → P (made g priority two_ends) in
    subst Q (sym ((requests_said q f).0 says)) holds q.priority q.two_ends

-- If the links in `rows` have different keys, some database has exactly these links. If `to` isn't
-- 1.1.1.1, there are requests from 1.1.1.1 to `to`.
found : (rows : List Link) (to : ℕ) → HaveOwnKeys rows → router 1 ≢ to → AreFound rows to
found rows to apart two_ends = record {
  database = (database_of rows, record { listed = rows_listed rows apart; unmarked = refl });
  request = λ hops. let q : Request = made (asked_fields to hops) (lit< tt) two_ends in (q, (requests_said q (asked_fields to hops)).1 refl);
}

-- There is a database with exactly the six links of the first network of `specs/Examples` and their
-- reverses.
pub six_links_found : AreFound (both_ways six_links) (router 4)
unfolding IsDistinct
six_links_found = found (both_ways six_links) (router 4) (search rules) (eqb-false _ _ refl)

-- There is a database with exactly the three links of the second network of `specs/Examples` and
-- their reverses.
pub three_links_found : AreFound (both_ways three_links) (router 3)
unfolding IsDistinct
three_links_found = found (both_ways three_links) (router 3) (search rules) (eqb-false _ _ refl)

-- If `rows` has exactly the links of the database, and `P` holds of each link in `rows`, `P` holds
-- of each link of the database.
each_link : (P : Link → Type 0) (d : Database) (rows : List Link) → AreLinksOf d rows
    → AllByRecursion P rows → (l : Link) → IsLinkOf d l → P l
each_link P d rows listed all l is =
    All-contains P rows l (All-from_recursion P rows all) (listed.whole l is)

-- The request that `made` builds admits each link with 1,000 bytes per second unreserved.
pub admitted : (tail_end : ℕ) (hops : List Hop) (priority : 0 < 8) (two_ends : router 1 ≢ tail_end) (from local to remote metric : ℕ) (apart : from ≢ to)
    → IsAdmitted (made (asked_fields tail_end hops) priority two_ends) (link from local to remote metric 1000 apart)
admitted tail_end hops priority two_ends from local to remote metric apart = search rules

-- For the request that `made` builds, a link of the database with 1,000 bytes per second unreserved
-- is admissible if the database also has the link's reverse.
usable : (d : Database) (tail_end : ℕ) (hops : List Hop) (priority : 0 < 8) (two_ends : router 1 ≢ tail_end) (from local to remote metric : ℕ) (apart : from ≢ to)
    → IsLinkOf d (link from local to remote metric 1000 apart) → IsLinkOf d (back (link from local to remote metric 1000 apart))
    → IsAdmissible d (made (asked_fields tail_end hops) priority two_ends) (link from local to remote metric 1000 apart)
usable d tail_end hops priority two_ends from local to remote metric apart is h2 = search (rules, admitted)

-- If no router is marked as without transit, each router has transit.
has_transit : (d : Database) → d.marks ≡ set.empty → (router : ℕ) → HasTransit d router
has_transit d none router on =
    true≢false (sym on ∙ ap (λ s. set.contains s router) none ∙ set.contains-empty nat_cmp router)

module _ (d : Database) (network : IsNetwork d (both_ways six_links)) where
  -- Each of the six links, and the reverse of each, is a link of the database.
  rows : AllByRecursion (IsLinkOf d) (both_ways six_links)
  rows = recursion_from_All (IsLinkOf d) (both_ways six_links) network.listed.each

  -- The router 10.9.0.1 owns the prefix 10.9.0.0/16 of the strict hop (`Owns`): the database has
  -- this router, and the prefix covers its Router ID.
  owned_inner_1 : Owns d inner_hop.prefix (inner 1)
  owned_inner_1 = record { known = (from_1_to_inner_1, rows.1.0, inr refl); covered = inl refl }

  -- The router 10.9.0.2 owns the prefix 10.9.0.0/16 of the strict hop (`Owns`): the database has
  -- this router, and the prefix covers its Router ID.
  owned_inner_2 : Owns d inner_hop.prefix (inner 2)
  owned_inner_2 = record { known = (from_1_to_inner_2, rows.1.1.0, inr refl); covered = inl refl }

  -- The head-end 1.1.1.1 owns the prefix 1.1.1.1/32 of the hop to itself (`Owns`): the database has
  -- this router, and the prefix covers its Router ID.
  owned_router_1 : Owns d first_router_hop.prefix (router 1)
  owned_router_1 = record { known = (from_1_to_3, rows.0, inl refl); covered = inl refl }

  module _ (hops : List Hop) (priority : 0 < 8) (two_ends : router 1 ≢ router 4) where
    -- A request from 1.1.1.1 to 4.4.4.4 with the hops `hops`.
    abbrev q : Request
    q = made (asked_fields (router 4) hops) priority two_ends

    -- The way over 10.9.0.2 is a walk.
    inside_walk : IsWalk d q way_inside
    inside_walk = record {
      links = (
        usable d (router 4) hops priority two_ends _ _ _ _ _ _ rows.1.1.0 rows.1.1.1.1.1.1.1.1.0,
        (usable d (router 4) hops priority two_ends _ _ _ _ _ _ rows.1.1.1.1.1.0 rows.1.1.1.1.1.1.1.1.1.1.1.0, (usable d (router 4) hops priority two_ends _ _ _ _ _ _ rows.1.1.1.1.0 rows.1.1.1.1.1.1.1.1.1.1.0, tt)),
      );
      joined = (refl, (refl, (refl, tt)));
      transit = (has_transit d network.unmarked _, (has_transit d network.unmarked _, tt));
    }

    -- The way over 3.3.3.3 is a walk.
    outside_walk : IsWalk d q way_outside
    outside_walk = record {
      links = (
        usable d (router 4) hops priority two_ends _ _ _ _ _ _ rows.0 rows.1.1.1.1.1.1.0,
        (usable d (router 4) hops priority two_ends _ _ _ _ _ _ rows.1.1.1.0 rows.1.1.1.1.1.1.1.1.1.0, (usable d (router 4) hops priority two_ends _ _ _ _ _ _ rows.1.1.1.1.0 rows.1.1.1.1.1.1.1.1.1.1.0, tt)),
      );
      joined = (refl, (refl, (refl, tt)));
      transit = (has_transit d network.unmarked _, (has_transit d network.unmarked _, tt));
    }

-- With the strict hop to 10.9.0.0/16, the way over 10.9.0.2 is a route, because its first leg
-- visits only the head-end and routers with an address in 10.9.0.0/16.
pub may_stand_at_owners : MayStandAtOwners
may_stand_at_owners d q network says =
    let owns_1 = owned_inner_1 d network in
    let owns_2 = owned_inner_2 d network in
    for_each (asked_fields (router 4) (inner_hop ∷ [])) (λ q. IsRoute d q way_inside)
    (λ priority two_ends. record {
      is_walk = inside_walk d network (inner_hop ∷ []) priority two_ends;
      cut = (
        (from_1_to_inner_2 ∷ from_inner_2_to_inner_1 ∷ []) ∷ (from_inner_1_to_4 ∷ []) ∷ [],
        record {
          number = refl;
          whole = refl;
          each = (
            record { arrives = owns_1; within = (inr (inl refl), (inr (inr owns_2), (inr (inr owns_1), tt))) },
            (record { arrives = refl; within = (inl tt, (inl tt, tt)) }, tt),
          );
        },
      );
    }) q says

-- With the loose hop to 10.9.0.0/16, the way over 3.3.3.3 is a route, because a loose leg may visit
-- any router.
pub may_stand_anywhere : MayStandAnywhere
may_stand_anywhere d q network says =
    for_each (asked_fields (router 4) (loose_inner_hop ∷ [])) (λ q. IsRoute d q way_outside)
    (λ priority two_ends. record {
      is_walk = outside_walk d network (loose_inner_hop ∷ []) priority two_ends;
      cut = (
        (from_1_to_3 ∷ from_3_to_inner_1 ∷ []) ∷ (from_inner_1_to_4 ∷ []) ∷ [],
        record {
          number = refl;
          whole = refl;
          each = (
            record { arrives = owned_inner_1 d network; within = (inl refl, (inl refl, (inl refl, tt))) },
            (record { arrives = refl; within = (inl tt, (inl tt, tt)) }, tt),
          );
        },
      );
    }) q says

-- If the first hop is the head-end itself, the way over 10.9.0.2 is a route, because its first leg
-- may be empty.
pub may_be_empty : MayBeEmpty
may_be_empty d q network says =
    let owns_first = owned_router_1 d network in
    let owns_1 = owned_inner_1 d network in
    let owns_2 = owned_inner_2 d network in
    for_each (asked_fields (router 4) (first_router_hop ∷ inner_hop ∷ []))
    (λ q. IsRoute d q way_inside) (λ priority two_ends. record {
      is_walk = inside_walk d network (first_router_hop ∷ inner_hop ∷ []) priority two_ends;
      cut = (
        [] ∷ (from_1_to_inner_2 ∷ from_inner_2_to_inner_1 ∷ []) ∷ (from_inner_1_to_4 ∷ []) ∷ [],
        record {
          number = refl;
          whole = refl;
          each = (
            record { arrives = owns_first; within = (inr (inr owns_first), tt) },
            (
              record { arrives = owns_1; within = (inr (inl owns_first), (inr (inr owns_2), (inr (inr owns_1), tt))) },
              (record { arrives = refl; within = (inl tt, (inl tt, tt)) }, tt),
            ),
          );
        },
      );
    }) q says

-- The way over 3.3.3.3 precedes the way over 10.9.0.2 in the order of walks.
pub is_outside_before_inside : IsOutsideBeforeInside
is_outside_before_inside = refl

module _ (d : Database) (listed : AreLinksOf d (both_ways six_links)) where
  -- The router 1.1.1.1 has no address in the prefix 10.9.0.0/16 of the strict hop, so it doesn't
  -- own this prefix (`Owns`).
  not_owned_router_1 : ¬ Owns d inner_hop.prefix (router 1)
  not_owned_router_1 = search rules

  -- The router 3.3.3.3 has no address in the prefix 10.9.0.0/16 of the strict hop, so it doesn't
  -- own this prefix (`Owns`).
  not_owned_router_3 : ¬ Owns d inner_hop.prefix (router 3)
  not_owned_router_3 = search rules

  module _ (priority : 0 < 8) (two_ends : router 1 ≢ router 4) where
    -- A request from 1.1.1.1 to 4.4.4.4 with the strict hop to 10.9.0.0/16.
    abbrev asking : Request
    asking = made (asked_fields (router 4) (inner_hop ∷ [])) priority two_ends

    -- The leg to the strict hop 10.9.0.0/16 may not visit the router 3.3.3.3.
    not_inside : ¬ IsInside d asking 1 (router 3)
    not_inside = search rules

    -- The way over 3.3.3.3 can't be cut into a leg to the strict hop 10.9.0.0/16 and a leg to the
    -- tail-end.
    not_cut : (legs : List (List Link)) → ¬ IsCutInto d asking way_outside legs
    not_cut [] cut = absurd (omega (arith, cut.number))
    not_cut ([] ∷ rest) cut = not_owned_router_1 cut.each.0.arrives
    not_cut ((l ∷ ls) ∷ rest) cut =
        let same : l ≡ from_1_to_3 = cc (cut.whole) in
        not_inside (subst (λ (m : Link). IsInside d asking 1 m.to) same cut.each.0.within.1.0)

-- With the strict hop to 10.9.0.0/16, the way over 3.3.3.3 isn't a route.
pub may_not_stand_elsewhere : MayNotStandElsewhere
may_not_stand_elsewhere d q network says =
    for_each (asked_fields (router 4) (inner_hop ∷ [])) (λ q. ¬ IsRoute d q way_outside)
    (λ priority two_ends route. not_cut d network.listed priority two_ends route.cut.0 route.cut.1) q says

-- With a hop to the prefix of an interface of 2.2.2.2, the way over 2.2.2.2 is a route, although
-- the link of this interface isn't admissible.
pub may_be_met_by_any_link : MayBeMetByAnyLink
may_be_met_by_any_link d q network says =
    let rows : AllByRecursion (IsLinkOf d) (both_ways three_links) = recursion_from_All (IsLinkOf d) (both_ways three_links) network.listed.each in
    let owns : Owns d interface_hop.prefix (router 2) = record {
      known = (from_1_to_2, rows.0, inr refl);
      covered = inr (from_2_to_4, rows.1.1.0, record { from = refl; local = refl });
    } in
    for_each (asked_fields (router 3) (interface_hop ∷ []))
    (λ q. IsRoute d q (from_1_to_2 ∷ from_2_to_3 ∷ []) × ¬ IsAdmissible d q from_2_to_4)
    (λ priority two_ends. (
      record {
        is_walk = record {
          links =
              (usable d (router 3) (interface_hop ∷ []) priority two_ends _ _ _ _ _ _ rows.0 rows.1.1.1.0, (usable d (router 3) (interface_hop ∷ []) priority two_ends _ _ _ _ _ _ rows.1.0 rows.1.1.1.1.0, tt));
          joined = (refl, (refl, tt));
          transit = (has_transit d network.unmarked _, tt);
        };
        cut = (
          (from_1_to_2 ∷ []) ∷ (from_2_to_3 ∷ []) ∷ [],
          record {
            number = refl;
            whole = refl;
            each =
                (record { arrives = owns; within = (inr (inl refl), (inr (inr owns), tt)) }, (record { arrives = refl; within = (inl tt, (inl tt, tt)) }, tt));
          },
        );
      },
      λ admissible. absurd (omega (arith, admissible.usable.admitted.room)),
    )) q says
