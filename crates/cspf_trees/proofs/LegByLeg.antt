-- If each leg has only one target, the best routes of the legs, one after the other, are the best
-- route of the request. A leg's targets are the routers where it may end.
use Rattle.std.proofs.Common.{◌≡◌, ◌≢◌, inl, ℕ, suc, ◌+◌, ◌<◌, ◌≤◌, List, [], ◌∷◌, ◌++◌, ◌⊎◌, length, slice_get, slice_index, refl, sym, ap, subst, ◌∙◌, arith, append-nil, append_assoc, length-append, bit_and, bit_xor}
use Rattle.std.specs.List.{AllByRecursion, flat_map}
use Rattle.std.specs.declared.cmp.Ordering.TheVariants.{Less}
use Rattle.cspf_model.specs.declared.link.Link.{Link}
use Rattle.cspf_model.specs.declared.request.Request.{Request}
use Rattle.cspf_model.specs.Database.{Database, HasTransit}
use Rattle.cspf_model.specs.Admissible.{HasAffinity, IsAdmissible}
use Rattle.std.proofs.lemmas.Option.{slice_get_past}
use Rattle.cspf_model.specs.Targets.{IsInside, IsLoose, IsTarget, IsTargetOf}
use Rattle.cspf_model.specs.Walks.{AreJoined, IsWalk, end_of, routers_of, walk_cmp}
use Rattle.cspf_model.specs.Legs.{AreLegs, IsLeg}
use Rattle.cspf_model.specs.RouteLinks.{AreLinked}
use Rattle.cspf_model.specs.Routes.{IsRoute}
use Rattle.cspf_model.specs.HopLaws.{AreRoutesWithoutHops}
use Rattle.cspf_model.specs.Best.{IsBestRoute}
use Rattle.cspf_trees.specs.LegsInTurn.{AsksForLeg, GoesOnInLegs, IsLeastSoFar, IsSoleTarget}
use Rattle.cspf_trees.proofs.JoinedOrders.{joined_no_earlier, none_earlier}
use Rattle.cspf_trees.proofs.JoinedWalks.{both_hold, end_of_both, hold_in_parts, joined_both, joined_in_parts, links_and_leg, one_more_leg, pass_both, pass_in_parts}

-- two requests with the same setup priority, bandwidth and affinities have the same admissible
-- links

affinity_too : (q p : Request) (l : Link) → q.exclude_any ≡ p.exclude_any → q.include_any ≡ p.include_any → q.include_all ≡ p.include_all → HasAffinity q l → HasAffinity p l
affinity_too q p l exclude any all is = record {
  exclude_any = subst (λ m. bit_and l.group m ≡ 0) exclude is.exclude_any;
  include_any = subst (λ m. (m ≡ 0) ⊎ (bit_and l.group m ≢ 0)) any is.include_any;
  include_all = subst (λ m. (m ≡ 0) ⊎ (bit_xor (bit_and l.group m) m ≡ 0)) all is.include_all;
}

admissible_too : (d : Database) (q p : Request) (l : Link) → q.setup ≡ p.setup → q.bandwidth ≡ p.bandwidth → q.exclude_any ≡ p.exclude_any → q.include_any ≡ p.include_any
    → q.include_all ≡ p.include_all → IsAdmissible d q l → IsAdmissible d p l
admissible_too d q p l setup bandwidth exclude any all is = record {
  link = is.link;
  usable = record {
    admitted = record {
      affinity = affinity_too q p l exclude any all is.usable.admitted.affinity;
      room = subst (λ n. n ≤ slice_index l.free p.setup) bandwidth (subst (λ k. q.bandwidth ≤ slice_index l.free k) setup is.usable.admitted.room);
    };
    reverse = is.usable.reverse;
  };
}

all_admissible : (d : Database) (q p : Request) → q.setup ≡ p.setup → q.bandwidth ≡ p.bandwidth → q.exclude_any ≡ p.exclude_any → q.include_any ≡ p.include_any
    → q.include_all ≡ p.include_all → (links : List Link) → AllByRecursion (IsAdmissible d q) links → AllByRecursion (IsAdmissible d p) links
all_admissible d q p setup bandwidth exclude any all [] are = tt
all_admissible d q p setup bandwidth exclude any all (l ∷ links) are =
    (admissible_too d q p l setup bandwidth exclude any all are.0, all_admissible d q p setup bandwidth exclude any all links are.1)

-- a loose leg may visit each router
stays_in_loose : (d : Database) (q : Request) (at : ℕ) → IsLoose (slice_get q.hops at) → (routers : List ℕ) → AllByRecursion (IsInside d q (suc at)) routers
stays_in_loose d q at loose [] = tt
stays_in_loose d q at loose (router ∷ routers) = (inl loose, stays_in_loose d q at loose routers)

module _ (d : Database) (q : Request) where
  -- each route begins with the walk without links, followed by all legs of the route
  begins : (route : List Link) → IsRoute d q route → GoesOnInLegs d q 0 q.from [] route
  begins route is = record {
    front = [];
    legs = is.cut.0;
    whole = is.cut.1.whole;
    number = omega (arith, is.cut.1.number);
    each = is.cut.1.each;
    arrives = refl;
    order = none_earlier [];
  }

  pub least_at_first : IsLeastSoFar d q 0 q.from []
  least_at_first = record {
    is_walk = record { links = tt; joined = tt; transit = tt };
    legs = [];
    number = refl;
    whole = refl;
    each = tt;
    arrives = refl;
    target = refl;
    least = begins;
  }

  -- The route consists of the links `front`, then the leg `leg` to the router `target`, and then
  -- its other legs `rest`. `target` is the only target of the leg `leg` (a router where it may
  -- end).
  record TakesLeg (count router target : ℕ) (walk route : List Link) : Type 0 where
    front : List Link
    leg : List Link
    rest : List (List Link)
    whole : front ++ (leg ++ flat_map (λ links. links) rest) ≡ route
    number : suc count + length rest ≡ suc (length q.hops)
    each : AreLegs d q (suc (suc count)) target rest
    begins_at : end_of q.from front ≡ router
    arrives : end_of router leg ≡ target
    order : walk_cmp front walk ≢ Less

  module _ (count router target : ℕ) (sole : IsSoleTarget d q count target) (few : count < suc (length q.hops)) (walk : List Link) where
    next_leg : (route front : List Link) (legs : List (List Link)) → front ++ flat_map (λ links. links) legs ≡ route → count + length legs ≡ suc (length q.hops)
        → AreLegs d q (suc count) router legs → end_of q.from front ≡ router → walk_cmp front walk ≢ Less → TakesLeg count router target walk route
    next_leg route front [] whole number each arrives order = absurd (omega arith)
    next_leg route front (leg ∷ rest) whole number each arrives order =
        let end : end_of router leg ≡ target = sole.sole (end_of router leg) each.0.arrives in
        record {
          front = front;
          leg = leg;
          rest = rest;
          whole = whole;
          number = omega arith;
          each = subst (λ r. AreLegs d q (suc (suc count)) r rest) end each.1;
          begins_at = arrives;
          arrives = end;
          order = order;
        }

    takes_leg : (route : List Link) → GoesOnInLegs d q count router walk route → TakesLeg count router target walk route
    takes_leg route g = next_leg route g.front g.legs g.whole g.number g.each g.arrives g.order

    -- If the route's next leg doesn't precede the links `links`, the route's prefix up to the end
    -- of this leg doesn't precede the walk followed by `links`.
    goes_on_after : (route : List Link) (t : TakesLeg count router target walk route) (links : List Link) → walk_cmp t.leg links ≢ Less
        → GoesOnInLegs d q (suc count) target (walk ++ links) route
    goes_on_after route t links least = record {
      front = t.front ++ t.leg;
      legs = t.rest;
      whole = append_assoc t.front t.leg (flat_map (λ links. links) t.rest) ∙ t.whole;
      number = t.number;
      each = t.each;
      arrives = end_of_both q.from t.front t.leg ∙ ap (λ r. end_of r t.leg) t.begins_at ∙ t.arrives;
      order = joined_no_earlier t.front walk t.leg links t.order least;
    }

    -- The walk followed by `links` is the least walk through all legs up to the next one, if each
    -- route has a prefix that ends at the next leg's target (a router where the leg may end) and
    -- doesn't precede this longer walk.
    one_more : IsLeastSoFar d q count router walk → (links : List Link) → IsWalk d q (walk ++ links) → end_of router links ≡ target
        → ((route : List Link) → IsRoute d q route → GoesOnInLegs d q (suc count) target (walk ++ links) route)
        → IsLeastSoFar d q (suc count) target (walk ++ links)
    one_more before links is_walk arrives least =
        let there : end_of q.from (flat_map (λ links. links) before.legs) ≡ router = ap (end_of q.from) before.whole ∙ before.arrives in
        let leg : IsLeg d q (suc count) router links = record {
          arrives = subst (IsTarget d q (suc count)) (sym arrives) sole.target;
          within = stays_in_loose d q count sole.loose (routers_of router links);
        } in
        let at : suc count ≡ 1 + length before.legs = omega (arith, before.number) in
        record {
          is_walk = is_walk;
          legs = before.legs ++ (links ∷ []);
          number = omega (arith, before.number, length-append before.legs (links ∷ []));
          whole = links_and_leg before.legs links ∙ ap (λ front. front ++ links) before.whole;
          each = one_more_leg d q 1 q.from before.legs links before.each
              (subst (λ k. IsLeg d q k (end_of q.from (flat_map (λ links. links) before.legs)) links) at
              (subst (λ r. IsLeg d q (suc count) r links) (sym there) leg));
          arrives = end_of_both q.from walk links ∙ ap (λ r. end_of r links) before.arrives ∙ arrives;
          target = sole.target;
          least = least;
        }

    -- if the walk already ends at the target of the next leg (a router where this leg may end), it
    -- is also the least walk through this next leg
    pub least_after_none : IsLeastSoFar d q count router walk → target ≡ router → IsLeastSoFar d q (suc count) target walk
    least_after_none before same =
        subst (IsLeastSoFar d q (suc count) target) (append-nil walk)
        (one_more before [] (subst (IsWalk d q) (sym (append-nil walk)) before.is_walk) (sym same)
        (λ route is. let t = takes_leg route (before.least route is) in goes_on_after route t [] (none_earlier t.leg)))

    module _ (law : AreRoutesWithoutHops) (p : Request) (asks : AsksForLeg q p router target) where
      -- the next leg of a route is a route of the request for this leg
      leg_is_route : (route : List Link) → IsRoute d q route → (t : TakesLeg count router target walk route) → IsRoute d p t.leg
      leg_is_route route is t =
          let tail = flat_map (λ links. links) t.rest in
          let walks : IsWalk d q (t.front ++ (t.leg ++ tail)) = subst (IsWalk d q) (sym t.whole) is.is_walk in
          let links = (hold_in_parts (IsAdmissible d q) t.leg tail (hold_in_parts (IsAdmissible d q) t.front (t.leg ++ tail) walks.links).1).0 in
          let joined = (joined_in_parts (end_of q.from t.front) t.leg tail (joined_in_parts q.from t.front (t.leg ++ tail) walks.joined).1).0 in
          let passed = (pass_in_parts d t.leg tail (pass_in_parts d t.front (t.leg ++ tail) walks.transit).1).0 in
          (law d p t.leg asks.hops).1 (record {
            is_walk = record {
              links = all_admissible d q p (sym asks.setup) (sym asks.bandwidth) (sym asks.exclude_any) (sym asks.include_any) (sym asks.include_all) t.leg links;
              joined = subst (λ r. AreJoined r t.leg) (t.begins_at ∙ sym asks.from) joined;
              transit = passed;
            };
            arrives = ap (λ r. end_of r t.leg) asks.from ∙ t.arrives ∙ sym asks.to;
          })

      -- if the request for the next leg has no route, the whole request has no route
      pub no_route_without_leg : IsLeastSoFar d q count router walk → ((links : List Link) → ¬ IsRoute d p links) → (route : List Link) → ¬ IsRoute d q route
      no_route_without_leg before none route is =
          let t = takes_leg route (before.least route is) in
          none t.leg (leg_is_route route is t)

      -- the walk so far, followed by the best route of the next leg, is the least walk through this
      -- next leg
      pub least_after_leg : IsLeastSoFar d q count router walk → (HasTransit d router ⊎ (walk ≡ [])) → (links : List Link) → IsBestRoute d p links
          → IsLeastSoFar d q (suc count) target (walk ++ links)
      least_after_leg before joint links best =
          let to_end = (law d p links asks.hops).0 best.is_route in
          let joined : AreJoined router links = subst (λ r. AreJoined r links) asks.from to_end.is_walk.joined in
          let arrives : end_of router links ≡ target = ap (λ r. end_of r links) (sym asks.from) ∙ to_end.arrives ∙ asks.to in
          let admissible : AllByRecursion (IsAdmissible d q) links =
          all_admissible d p q asks.setup asks.bandwidth asks.exclude_any asks.include_any asks.include_all links to_end.is_walk.links in
          one_more before links
          (record {
            links = both_hold (IsAdmissible d q) walk links before.is_walk.links admissible;
            joined = joined_both q.from walk links before.is_walk.joined (subst (λ r. AreJoined r links) (sym before.arrives) joined);
            transit = pass_both d router walk links joined joint before.is_walk.transit to_end.is_walk.transit;
          })
          arrives
          (λ route is. let t = takes_leg route (before.least route is) in goes_on_after route t links (best.least t.leg (leg_is_route route is t)))

  -- a route has no more links after its last leg, so it doesn't precede the walk
  all_taken : (walk route front : List Link) (legs : List (List Link)) → front ++ flat_map (λ links. links) legs ≡ route
      → suc (length q.hops) + length legs ≡ suc (length q.hops) → walk_cmp front walk ≢ Less → walk_cmp route walk ≢ Less
  all_taken walk route front [] whole number order = subst (λ w. walk_cmp w walk ≢ Less) (sym (append-nil front) ∙ whole) order
  all_taken walk route front (leg ∷ legs) whole number order = absurd (omega arith)

  -- the least walk through all legs is the best route of the request
  pub best_of_legs : (router : ℕ) (walk : List Link) → IsLeastSoFar d q (suc (length q.hops)) router walk → IsBestRoute d q walk
  best_of_legs router walk is = record {
    is_route = record { is_walk = is.is_walk; cut = (is.legs, record { number = is.number; whole = is.whole; each = is.each }) };
    least = λ other route. let g = is.least other route in all_taken walk other g.front g.legs g.whole g.number g.order;
  }

  -- the walk through all legs ends at the tail-end, so it has at least one link
  ends_at_tail : (router : ℕ) → IsTarget d q (suc (length q.hops)) router → router ≡ q.to
  ends_at_tail router target = subst (λ hop. IsTargetOf d q.to hop router) (slice_get_past q.hops (length q.hops) (omega arith)) target

  pub has_links : (router : ℕ) (walk : List Link) → IsLeastSoFar d q (suc (length q.hops)) router walk → 0 < length walk
  has_links router [] is = absurd (q.two_ends (is.arrives ∙ ends_at_tail router is.target))
  has_links router (l ∷ walk) is = omega arith

  is_linked : (router : ℕ) (walk : List Link) → AreJoined router walk → AreLinked walk
  is_linked router [] joined = tt
  is_linked router (l ∷ walk) joined = (refl, joined.1)

  pub links_are_linked : (count router : ℕ) (walk : List Link) → IsLeastSoFar d q count router walk → AreLinked walk
  links_are_linked count router walk is = is_linked q.from walk is.is_walk.joined
