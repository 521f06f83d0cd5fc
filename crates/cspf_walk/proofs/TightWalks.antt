-- The walk that follows the first tight link from each router is the least route, if it leads to
-- the tail-end. A link is tight if a lower bound of the rank falls over the link by exactly the
-- link's step.
use Rattle.std.proofs.Common.{◌≡◌, ◌≢◌, inl, inr, ℕ, ◌+◌, ◌*◌, ◌^◌, ◌<◌, ◌≤◌, Some, List, [], ◌∷◌, ◌++◌, ◌⊎◌, length, map, slice_get, refl, sym, ap, subst, ◌∙◌, arith, nat_eq, append_assoc, append-nil, rules}
use Rattle.std.proofs.lemmas.Grind.{common_steps}
use Rattle.std.specs.List.{AllByRecursion, IsDistinct}
use Rattle.std.specs.Cmp.{nat_cmp_total, IsTotalOrder}
use Rattle.std.specs.Cmp.Lexicographic.{slice_cmp}
use Rattle.std.specs.Ordering.{nat_cmp, ordering_then}
use Rattle.std.specs.declared.cmp.Ordering.{Ordering}
use Rattle.std.specs.declared.cmp.Ordering.TheVariants.{Less, Equal, Greater}
use Rattle.std.proofs.lemmas.Bool.{cases_lt}
use Rattle.std.proofs.lemmas.Cmp.{then_total, on_total, nat_list_cmp_total, tied_itself}
use Rattle.std.proofs.lemmas.Bool.Decides.{nat_tests}
use Rattle.std.proofs.lemmas.List.{get_or_default, length-append, length_push}
use Rattle.std.proofs.lemmas.List.Sums.{sum_by_push}
use Rattle.std.proofs.lemmas.List.Elements.{All-contains, at_from_Contains}
use Rattle.std.proofs.lemmas.Option.{get_or_from_slice_get, same_Some, slice_get-get_or, slice_get_within}
use Rattle.cspf_columns.specs.declared.limits.TheConstants.{NO_LINK}
use Rattle.cspf_model.specs.declared.link.Link.{Link}
use Rattle.cspf_model.specs.declared.request.Request.{Request}
use Rattle.cspf_model.specs.Database.{Database, AreAtTheirKeys, AreLinksOf, HasTransit, IsLinkOf, IsRouterOf}
use Rattle.cspf_model.specs.Admissible.{IsAdmissible, IsAdmitted, MayLeave}
use Rattle.cspf_model.specs.Walks.{AreJoined, IsWalk, cost_of, end_of, locals_of, routers_passed, walk_cmp}
use Rattle.cspf_model.specs.Routes.{IsRoute}
use Rattle.cspf_model.specs.Best.{IsBestRoute}
use Rattle.cspf_model.specs.HopLaws.{AreRoutesWithoutHops}
use Rattle.cspf_model.specs.RouteLinks.{AreLinked, IsKept}
use Rattle.cspf_db.specs.Index.{links_from_index, links_of, router_list}
use Rattle.cspf_graph.specs.Lists.{AreListed, IsIndexOf, router_at}
use Rattle.cspf_graph.specs.Roles.{MayBeLeft, MayLeadOver}
use Rattle.cspf_graph.proofs.RouterIndexes.{one_place}
use Rattle.cspf_walk.specs.declared.edge.Edge.{Edge}
use Rattle.cspf_walk.specs.Edges.{IsEdge}
use Rattle.cspf_walk.specs.TightWalks.{GoesOn, IsNextTight, IsTight, IsTightWalk, IsWayToEnd, LeavesLater}
use Rattle.cspf_walk.specs.Ways.{IsRankBound, IsWayLink, Leads, rank_of, link_step}
use Rattle.cspf_graph.proofs.LinkRows.{has_reverse, kept_from, kept_of, runs_from}
use Rattle.cspf_graph.proofs.RowLocals.{locals_rise}
use Rattle.cspf_walk.proofs.ShorterWays.{cost_of-cons, few_links, rest_of, shorter}

abbrev locals_cmp : List Link → List Link → Ordering
locals_cmp v w = slice_cmp nat_cmp (locals_of v) (locals_of w)

walks_total : IsTotalOrder walk_cmp
walks_total = then_total (on_total cost_of nat_cmp_total) (then_total (on_total (λ (w : List Link). length w) nat_cmp_total) (on_total locals_of nat_list_cmp_total))

cost_of-push : (v : List Link) (l : Link) → cost_of (v ++ (l ∷ [])) ≡ cost_of v + l.metric
cost_of-push v l = sum_by_push (λ (l : Link). l.metric) v l

-- A walk doesn't precede another walk if it costs more, or if it costs the same and has more links.

cost_first : (a b : ℕ) (o : Ordering) → b < a → ordering_then (nat_cmp a b) o ≡ Less → ⊥
cost_first a b o h less = grind (arith, nat_tests)

links_first : (a b m n : ℕ) (o : Ordering) → a ≡ b → n < m → ordering_then (nat_cmp a b) (ordering_then (nat_cmp m n) o) ≡ Less → ⊥
links_first a b m n o e h less = grind (arith, nat_tests)

-- The local addresses decide between two walks that have the same cost and the same number of
-- links.
locals_decide : (a b m n : ℕ) (o : Ordering) → a ≡ b → m ≡ n → o ≡ Greater → ordering_then (nat_cmp a b) (ordering_then (nat_cmp m n) o) ≡ Less → ⊥
locals_decide a b m n o e same greater less = grind (arith, nat_tests)

local_first : (a b : ℕ) (o : Ordering) → b < a → ordering_then (nat_cmp a b) o ≡ Greater
local_first a b o h = grind (arith, nat_tests)

parts_greater : (front : List Link) (m l : Link) (rest on : List Link) → l.local < m.local → locals_cmp (front ++ (m ∷ rest)) (front ++ (l ∷ on)) ≡ Greater
parts_greater [] m l rest on later = local_first m.local l.local (locals_cmp rest on) later
parts_greater (k ∷ front) m l rest on later =
    ap (λ o. ordering_then o (locals_cmp (front ++ (m ∷ rest)) (front ++ (l ∷ on)))) (tied_itself nat_cmp_total k.local) ∙ parts_greater front m l rest on later

-- If a route leaves a walk by a link with a greater local address, it comes after the walk in the
-- order of local addresses.
later_greater : (walk route : List Link) → LeavesLater walk route → locals_cmp route walk ≡ Greater
later_greater walk route b = (λ t. locals_cmp (b.is_route t) (b.is_walk t)) ∙ parts_greater b.front b.other b.taken b.rest b.on b.later

-- If a route leaves a walk by a link with a greater local address, it leaves the walk in the same
-- way after one more link is appended to the walk.
leaves_longer : (walk route : List Link) (l : Link) → LeavesLater walk route → LeavesLater (walk ++ (l ∷ [])) route
leaves_longer walk route l b = record {
  front = b.front;
  taken = b.taken;
  other = b.other;
  on = b.on ++ (l ∷ []);
  rest = b.rest;
  is_walk = ap (λ (w : List Link). w ++ (l ∷ [])) b.is_walk ∙ append_assoc b.front (b.taken ∷ b.on) (l ∷ []);
  is_route = b.is_route;
  later = b.later;
}

-- A router of the database has an index in the list of routers.
place_for : (d : Database) → AreListed d → (router : ℕ) → IsRouterOf d router → (place : ℕ) × IsIndexOf d router place
place_for d listed router known =
    let at = at_from_Contains (router_list d) router ((listed.known router).1 known) in
    (at.0, record { within = at.1; is = at.2 0 })

-- A router that has an index in the list of routers is a router of the database.
pub known_at : (d : Database) → AreListed d → (router place : ℕ) → IsIndexOf d router place → IsRouterOf d router
known_at d listed router place at = (listed.known router).0 (place, at.within, get_or_default (router_list d) place router 0 at.within ∙ at.is)

-- The router at the end of an admissible link has an index in the list of routers.
pub to_place : (d : Database) (q : Request) → AreListed d → (l : Link) → IsAdmissible d q l → (place : ℕ) × IsIndexOf d l.to place
to_place d q listed l a = place_for d listed l.to (l, a.link, inr refl)

end_of-push : (a : ℕ) (w : List Link) (l : Link) → end_of a (w ++ (l ∷ [])) ≡ l.to
end_of-push a [] l = refl
end_of-push a (m ∷ w) l = end_of-push m.to w l

AreJoined-push : (a : ℕ) (w : List Link) (l : Link) → AreJoined a w → l.from ≡ end_of a w → AreJoined a (w ++ (l ∷ []))
AreJoined-push a [] l j e = (e, tt)
AreJoined-push a (m ∷ w) l j e = (j.0, AreJoined-push m.to w l j.1 e)

All-push : (P : Link → Type 0) (w : List Link) (l : Link) → AllByRecursion P w → P l → AllByRecursion P (w ++ (l ∷ []))
All-push P w l all here = grind (arith, common_steps)

module _ (d : Database) where
  -- If all links of a walk begin at routers with transit, and one more link does too, all links of
  -- the walk with this link appended begin at routers with transit.
  froms_push : (w : List Link) (l : Link) → AllByRecursion (HasTransit d) (map (λ m. m.from) w) → HasTransit d l.from
      → AllByRecursion (HasTransit d) (map (λ m. m.from) (w ++ (l ∷ [])))
  froms_push w l all here = grind (arith, common_steps)

  -- If a walk passes only through routers with transit, and may leave its last router by a link,
  -- the walk with this link appended passes only through routers with transit.
  passed_push : (w : List Link) (l : Link) → AllByRecursion (HasTransit d) (routers_passed w) → MayLeave d l.from (length w)
      → AllByRecursion (HasTransit d) (routers_passed (w ++ (l ∷ [])))
  passed_push w l all leaves = search (rules, froms_push)

module _ (d : Database) (q : Request) where
  -- The links of a walk to the tail-end are links that a route may use, if some walk may leave the
  -- router where the walk begins.
  way_links : (a : ℕ) (w : List Link) → AreJoined a w → AllByRecursion (IsAdmissible d q) w → AllByRecursion (HasTransit d) (routers_passed w) → end_of a w ≡ q.to → MayBeLeft d q a
      → AllByRecursion (IsWayLink d q) w
  way_links a [] joined admissible passed end left = tt
  way_links a (l ∷ []) joined admissible passed end left =
      (record { admissible = admissible.0; left = subst (MayBeLeft d q) (sym joined.0) left; over = inr end }, tt)
  way_links a (l ∷ (m ∷ w)) joined admissible passed end left =
      let transit : HasTransit d l.to = subst (HasTransit d) joined.1.0 passed.0 in (
        record { admissible = admissible.0; left = subst (MayBeLeft d q) (sym joined.0) left; over = inl transit },
        way_links l.to (m ∷ w) joined.1 admissible.1 passed.1 end (inl transit),
      )

module _ (d : Database) (q : Request) (routes : AreRoutesWithoutHops) (loose : q.hops ≡ []) where
  -- A route is a way from the head-end to the tail-end.
  pub route_way : (route : List Link) → IsRoute d q route → IsWayToEnd d q q.from route
  route_way route is_route =
      let walk = (routes d q route loose).0 is_route in
      record {
        links = way_links d q q.from route walk.is_walk.joined walk.is_walk.links walk.is_walk.transit walk.arrives (inr refl);
        joined = walk.is_walk.joined;
        end = walk.arrives;
      }

  -- A route has at least one link, because the head-end and the tail-end of a request differ.
  route_some : (w : List Link) → IsRoute d q w → 0 < length w
  route_some [] route = absurd (q.two_ends ((routes d q [] loose).0 route).arrives)
  route_some (l ∷ w) route = omega arith

linked : (a : ℕ) (w : List Link) → AreJoined a w → AreLinked w
linked a w joined = search rules

module _ (d : Database) (q : Request) (bound : ℕ → ℕ) (listed : AreListed d) (is : IsRankBound d q bound) where
  pub leads_by : (l : Link) → IsWayLink d q l → (u w : ℕ) → IsIndexOf d l.from u → IsIndexOf d l.to w → Leads d q u w (link_step l)
  leads_by l way u w from to = record { link = l; is = way; from = from; to = to; same = refl }

  -- A way to the tail-end has at least the rank that the bound gives for the router where the way
  -- begins.
  at_least : (router place : ℕ) → IsIndexOf d router place → (links : List Link) → IsWayToEnd d q router links → bound place ≤ rank_of links
  at_least router place at [] way = omega (arith, is.end place (subst (λ r. IsIndexOf d r place) way.end at))
  at_least router place at (l ∷ links) way =
      let to = to_place d q listed l way.links.0.admissible in
      let from : IsIndexOf d l.from place = subst (λ r. IsIndexOf d r place) (sym way.joined.0) at in
      let rest = at_least l.to to.0 to.1 links (rest_of d q router l links way) in
      let within = is.links place to.0 (link_step l) (leads_by l way.links.0 place to.0 from to.1) in
      omega (arith, rest, within, cost_of-cons l links)

  -- Lemmas on a way from a router to the tail-end that has exactly the rank that the bound gives for
  -- the router. The first link of this way is tight, and so are the other links.
  module _ (router place : ℕ) (at : IsIndexOf d router place) (l : Link) (links : List Link) (way : IsWayToEnd d q router (l ∷ links))
      (rank : rank_of (l ∷ links) ≡ bound place) where
    rank_after : (end : ℕ) → IsIndexOf d l.to end → rank_of links ≡ bound end
    rank_after end to =
        let from : IsIndexOf d l.from place = subst (λ r. IsIndexOf d r place) (sym way.joined.0) at in
        let low = at_least l.to end to links (rest_of d q router l links way) in
        let within = is.links place end (link_step l) (leads_by l way.links.0 place end from to) in
        omega (arith, low, within, rank, cost_of-cons l links)

    first_tight : IsTight d q bound place l
    first_tight = record {
      usable = way.links.0.admissible.usable;
      over = way.links.0.over;
      falls = λ end to. omega (arith, rank_after end to, rank, cost_of-cons l links);
    }

  module _ (routes : AreRoutesWithoutHops) (loose : q.hops ≡ []) (from : ℕ) (there : IsIndexOf d q.from from) where
    -- The walk without links meets `IsTightWalk`: it leads from the head-end to itself.
    pub tight_none : IsTightWalk d q bound from [] from
    tight_none = record {
      within = there.within;
      is_walk = record { links = tt; joined = tt; transit = tt };
      ends = sym there.is;
      leaves = inl (inr refl);
      rank = omega arith;
      first = λ route is_route rank. inl (record { rest = route; whole = refl; way = rw there.is (route_way d q routes loose route is_route); rank = rank });
    }

    -- Lemmas on a tight walk to which the first tight link from its last router is appended.
    module _ (of : AreLinksOf d (links_of d)) (keyed : AreAtTheirKeys d) (to : ℕ) (end : IsIndexOf d q.to to) (walk : List Link) (place : ℕ)
        (before : IsTightWalk d q bound from walk place) (on : place ≢ to) (edge : Edge) (next : IsNextTight d q bound place edge) where
      abbrev l : Link
      l = edge.link.now

      here : IsIndexOf d (router_at d place) place
      here = record { within = before.within; is = refl }

      not_end : router_at d place ≡ q.to → ⊥
      not_end e = on (one_place d listed q.to place to (subst (λ r. IsIndexOf d r place) e here) end)

      runs : l.from ≡ router_at d place
      runs = runs_from d place edge.row l next.is_edge.row

      link_of : IsLinkOf d l
      link_of =
          let within = slice_get_within (links_from_index d place) edge.row l next.is_edge.row in
          let read = get_or_from_slice_get (links_from_index d place) edge.row l l next.is_edge.row in
          All-contains (IsLinkOf d) (links_of d) l of.each (kept_of d place l (edge.row, within, read))

      leaves : MayLeave d l.from (length walk)
      leaves = elim before.leaves [ inl may ↦ subst (λ r. MayLeave d r (length walk)) (sym runs) may | inr e ↦ absurd (not_end e) ]

      walk_on : IsWalk d q (walk ++ (l ∷ []))
      walk_on = record {
        links = All-push (IsAdmissible d q) walk l before.is_walk.links (record { link = link_of; usable = next.tight.usable });
        joined = AreJoined-push q.from walk l before.is_walk.joined (runs ∙ sym before.ends);
        transit = passed_push d walk l before.is_walk.transit leaves;
      }

      leaves_on : (HasTransit d (router_at d edge.end) ⊎ (length (walk ++ (l ∷ [])) ≡ 0)) ⊎ (router_at d edge.end ≡ q.to)
      leaves_on = elim next.tight.over [ inl transit ↦ inl (inl (subst (HasTransit d) (sym next.is_edge.end.is) transit)) | inr e ↦ inr (next.is_edge.end.is ∙ e) ]

      -- A route begins with the tight walk. The rest of the route has the rank that the bound gives
      -- for the walk's last router. Then this rest begins with the link `l`, or with a link with a
      -- greater local address.
      goes_on : (rest : List Link) → IsWayToEnd d q (router_at d place) rest → rank_of rest ≡ bound place → (route : List Link) → route ≡ walk ++ rest
          → GoesOn d q bound (walk ++ (l ∷ [])) edge.end route ⊎ LeavesLater (walk ++ (l ∷ [])) route
      goes_on [] way rank route whole = absurd (not_end way.end)
      goes_on (m ∷ rest) way rank route whole =
          let tight = first_tight (router_at d place) place here m rest way rank in
          let after = rank_after (router_at d place) place here m rest way rank in
          let at = kept_from d place m (of.whole m way.links.0.admissible.link) way.joined.0 in
          let read : slice_get (links_from_index d place) at.0 ≡ Some m = slice_get-get_or (links_from_index d place) at.0 m at.1 ∙ ap Some at.2 in
          elim (cases_lt at.0 edge.row) [
            | inl lt ↦ absurd (next.slack at.0 m lt read tight)
            | inr ge ↦ elim (cases_lt edge.row at.0) [
              | inl gt ↦ inr (record {
                front = walk;
                taken = l;
                other = m;
                on = [];
                rest = rest;
                is_walk = refl;
                is_route = whole;
                later = locals_rise d keyed place edge.row at.0 l m next.is_edge.row read gt;
              })
              | inr le ↦
                  let row : at.0 ≡ edge.row = omega (arith, ge, le) in
                  let same : m ≡ l = same_Some m l (sym read ∙ ap (slice_get (links_from_index d place)) row ∙ next.is_edge.row) in
                  let there_on : m.to ≡ router_at d edge.end = ap (λ (k : Link). k.to) same ∙ sym next.is_edge.end.is in
                  let way_on : IsWayToEnd d q m.to rest = rest_of d q (router_at d place) m rest way in
                  inl (record {
                    rest = rest;
                    whole = whole ∙ ap (λ (k : Link). walk ++ (k ∷ rest)) same ∙ sym (append_assoc walk (l ∷ []) rest);
                    way = subst (λ r. IsWayToEnd d q r rest) there_on way_on;
                    rank = after edge.end (record { within = next.is_edge.end.within; is = sym there_on });
                  })
            ]
          ]

      pub tight_more : IsTightWalk d q bound from (walk ++ (l ∷ [])) edge.end
      tight_more = record {
        within = next.is_edge.end.within;
        is_walk = walk_on;
        ends = end_of-push q.from walk l ∙ sym next.is_edge.end.is;
        leaves = leaves_on;
        rank = omega (arith, cost_of-push walk l, length_push walk l, before.rank, next.tight.falls edge.end next.is_edge.end);
        first = λ route is_route rank.
            elim (before.first route is_route rank) [
              | inl b ↦ goes_on b.rest b.way b.rank route b.whole
              | inr b ↦ inr (leaves_longer walk route l b)
            ];
      }

    -- Lemmas on a tight walk that has reached the tail-end. Its rank is the bound of the head-end.
    module _ (few : (routers : List ℕ) → IsDistinct nat_eq routers → AllByRecursion (IsRouterOf d) routers → length routers ≤ 1024) (known : IsRouterOf d q.from)
        (to : ℕ) (end : IsIndexOf d q.to to) (walk : List Link) (at : IsTightWalk d q bound from walk to) where
      is_route : IsRoute d q walk
      is_route = (routes d q walk loose).1 (record { is_walk = at.is_walk; arrives = at.ends ∙ end.is })

      rank_is : rank_of walk ≡ bound from
      rank_is = omega (arith, at.rank, is.end to end)

      -- No route costs less than the walk.
      no_cheaper : (other : List Link) → IsRoute d q other → cost_of walk ≤ cost_of other
      no_cheaper other route =
          let short = shorter d q q.from other (route_way d q routes loose other route) in
          let many = few_links d q few q.from known short.links short.way short.apart in
          omega (arith, at_least q.from from there short.links short.way, rank_is, many, short.cost)

      -- A route that begins with the walk and has the same cost doesn't precede the walk.
      longer_later : (rest other : List Link) → other ≡ walk ++ rest → cost_of other ≡ cost_of walk → walk_cmp other walk ≢ Less
      longer_later [] other whole cost less =
          let same : other ≡ walk = whole ∙ append-nil walk in
          let tied : walk_cmp walk walk ≡ Equal = tied_itself walks_total walk in
          absurd (let found : walk_cmp walk walk ≡ Less = subst (λ w. walk_cmp w walk ≡ Less) same less in cc)
      longer_later (m ∷ rest) other whole cost less =
          let long : length walk < length other = omega (arith, ap (λ (w : List Link). length w) whole, length-append walk (m ∷ rest)) in
          links_first (cost_of other) (cost_of walk) (length other) (length walk) (locals_cmp other walk) cost long less

      least : (other : List Link) → IsRoute d q other → walk_cmp other walk ≢ Less
      least other route less =
          let low = at_least q.from from there other (route_way d q routes loose other route) in
          elim (cases_lt (cost_of walk) (cost_of other)) [
            | inl dear ↦ cost_first (cost_of other) (cost_of walk) (ordering_then (nat_cmp (length other) (length walk)) (locals_cmp other walk)) dear less
            | inr no_more ↦
                let cost : cost_of other ≡ cost_of walk = omega (arith, no_cheaper other route, no_more) in
                elim (cases_lt (length walk) (length other)) [
                  | inl long ↦ links_first (cost_of other) (cost_of walk) (length other) (length walk) (locals_cmp other walk) cost long less
                  | inr short ↦
                      let many : length other ≡ length walk = omega (arith, low, rank_is, cost, short) in
                      elim (at.first other route (omega (arith, rank_is, cost, many))) [
                        | inl b ↦ longer_later b.rest other b.whole cost less
                        | inr b ↦ locals_decide (cost_of other) (cost_of walk) (length other) (length walk) (locals_cmp other walk) cost many (later_greater walk other b) less
                      ]
                ]
          ]

      pub tight_best : IsBestRoute d q walk
      tight_best = record { is_route = is_route; least = least }

      pub tight_kept : length walk ≤ 8184 → (cost : ℕ) → cost ≡ cost_of walk → cost < 2 ^ 45 → IsKept walk cost
      tight_kept most cost same small = record {
        some = route_some d q routes loose walk is_route;
        most = most;
        linked = linked q.from walk at.is_walk.joined;
        cost = same;
        small = small;
      }

      pub tight_rank : cost_of walk * 1024 + length walk ≡ bound from
      tight_rank = rank_is

-- Lemmas on a link from a router. The first one concludes from the columns of the table that the
-- link is tight. The second one says that a way to the tail-end may lead over the router at the end
-- of a tight link.
module _ (d : Database) (q : Request) (bound : ℕ → ℕ) (listed : AreListed d) (of : AreLinksOf d (links_of d)) (place : ℕ) (edge : Edge) (is : IsEdge d place edge) where
  pub tight_is : bound place ≡ link_step edge.link.now + bound edge.end → edge.reverse ≢ NO_LINK → IsAdmitted q edge.link.now → MayLeadOver d q (router_at d edge.end) → IsTight d q bound place edge.link.now
  tight_is falls back admitted over = record {
    usable = record { admitted = admitted; reverse = has_reverse d of edge.link.now edge.reverse is.reverse back };
    over = rw (← is.end.is) over;
    falls = λ last at. omega (arith, falls, ap bound (one_place d listed edge.link.now.to last edge.end at is.end));
  }

  pub tight_over : IsTight d q bound place edge.link.now → MayLeadOver d q (router_at d edge.end)
  tight_over tight = rw is.end.is tight.over
