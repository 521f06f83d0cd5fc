-- Paths that begin at a router, and the routers that they lead to.
use Rattle.std.proofs.Common.{◌≡◌, ◌↔◌, ℕ, suc, ◌+◌, ◌<◌, ◌≤◌, Bool, true, false, not, Some, List, [], ◌∷◌, ◌++◌, length, map, drop, slice_index_or, refl, sym, ap, subst, ◌∙◌, append-nil, arith}
use Rattle.std.specs.List.{flat_map}
use Rattle.std.proofs.lemmas.List.{append_assoc, at_drop_more}
use Rattle.std.proofs.lemmas.Option.{slice_get_past}
use Rattle.cspf_model.specs.declared.link.Link.{Link}
use Rattle.cspf_model.specs.declared.request.Request.{Request}
use Rattle.cspf_model.specs.Database.{Database}
use Rattle.cspf_model.specs.Walks.{AreJoined, end_of}
use Rattle.cspf_model.specs.Targets.{IsTargetOf}
use Rattle.cspf_model.specs.Legs.{AreLegs}
use Rattle.cspf_model.specs.Routes.{IsRoute}
use Rattle.cspf_model.specs.Best.{Answer, unknown_from, unknown_to, no_route, route, IsBestAnswer}
use Rattle.cspf_book.specs.declared.path.Passed.{Passed}
use Rattle.cspf_book.specs.declared.placement.Placement.{Placement}
use Rattle.cspf_book.specs.Placements.{passed_of}
use Rattle.cspf_book.specs.PathsFrom.{path_from, passed_step, LeadFromTo}
use Rattle.cspf_book.specs.PlacedRoutes.{ConnectsItsEnds, ConnectTheirEnds}
use Rattle.cspf_book.specs.Offers.{IsOffered}

-- Let `links` be followed by the path along the steps from index i on. It is the same path with the
-- link of step i appended, followed by the path along the steps behind it.
pub path-step : (steps : List (ℕ × ℕ)) (i router : ℕ) (s : ℕ × ℕ) (links whole : List Passed) → i < length steps → s ≡ slice_index_or steps i s
    → whole ≡ links ++ path_from router (drop i steps)
    → whole ≡ (links ++ record { from = router; local = s.0; to = s.1 } ∷ []) ++ path_from s.1 (drop (i + 1) steps)
path-step steps i router s links whole within is so_far =
    so_far
    ∙ ap (λ ls. links ++ ls) (at_drop_more (path_from router) steps i s within ∙ ap (λ (x : ℕ × ℕ). path_from router (x ∷ drop (i + 1) steps)) (sym is))
    ∙ sym (append_assoc links (record { from = router; local = s.0; to = s.1 } ∷ []) (path_from s.1 (drop (i + 1) steps)))

-- A path that leads from a router is the path along the steps of its links.
pub path_from-steps : (from to : ℕ) (links : List Passed) → LeadFromTo from to links → path_from from (map passed_step links) ≡ links
path_from-steps from to [] leads = refl
path_from-steps from to (l ∷ ls) leads =
    let rest = path_from-steps l.to to ls leads.1 in
    λ i. record { from = sym leads.0 i; local = l.local; to = l.to } ∷ rest i

pub paths_from-steps : (placements : List Placement) → ConnectTheirEnds placements
    → map (λ p. path_from p.request.from (map passed_step p.route)) placements ≡ map (λ p. p.route) placements
paths_from-steps [] ends = refl
paths_from-steps (p ∷ ps) ends =
    let first = path_from-steps p.request.from p.request.to p.route ends.0 in
    let rest = paths_from-steps ps ends.1 in
    λ i. first i ∷ rest i

-- Links that are joined lead to the router at which they end.
leads-joined : (router to : ℕ) (walk : List Link) → AreJoined router walk → end_of router walk ≡ to → LeadFromTo router to (map passed_of walk)
leads-joined router to [] joined end = end
leads-joined router to (l ∷ ls) joined end = (joined.0, leads-joined l.to to ls joined.1 end)

end_of-append : (router : ℕ) (links more : List Link) → end_of router (links ++ more) ≡ end_of (end_of router links) more
end_of-append router [] more = refl
end_of-append router (l ∷ ls) more = end_of-append l.to ls more

-- The legs from a leg on end at the tail-end.
legs_arrive : (d : Database) (q : Request) (i router : ℕ) (legs : List (List Link)) → AreLegs d q (suc i) router legs
    → i ≤ length q.hops → i + length legs ≡ suc (length q.hops) → end_of router (flat_map (λ links. links) legs) ≡ q.to
legs_arrive d q i router [] each few many = absurd (omega (arith, few, many))
legs_arrive d q i router (links ∷ []) each few many =
    let last : length q.hops ≤ i = omega (arith, many) in
    ap (end_of router) (append-nil links)
    ∙ subst (λ hop. IsTargetOf d q.to hop (end_of router links)) (slice_get_past q.hops i last) each.0.arrives
legs_arrive d q i router (links ∷ next ∷ rest) each few many =
    end_of-append router links (flat_map (λ ls. ls) (next ∷ rest))
    ∙ legs_arrive d q (suc i) (end_of router links) (next ∷ rest) each.1 (omega (arith, many)) (omega (arith, many))

route_arrives : (d : Database) (q : Request) (walk : List Link) → IsRoute d q walk → end_of q.from walk ≡ q.to
route_arrives d q walk is =
    let cut = is.cut.1 in
    ap (end_of q.from) (sym cut.whole) ∙ legs_arrive d q 0 q.from is.cut.0 cut.each (omega arith) (omega (arith, cut.number))

-- The route of a placement that is offered for the best answer leads from the head-end of the
-- request to the tail-end.
pub ends-offered : (d : Database) (q : Request) (hold room : ℕ) (a : Answer) (p : Placement) → IsBestAnswer d q a → IsOffered q hold room a (Some p) → ConnectsItsEnds p
ends-offered d q hold room unknown_from p best off = absurd off
ends-offered d q hold room unknown_to p best off = absurd off
ends-offered d q hold room no_route p best off = absurd off
ends-offered d q hold room (route walk) p best (own, its, short, few) =
    rw (its.request, its.route) (leads-joined q.from q.to walk best.1.is_route.is_walk.joined (route_arrives d q walk best.1.is_route))

pub not_off : (b : Bool) → not b ≡ false → b ≡ true
not_off true e = refl
not_off false e = sym e

-- In this module, `l` is the link at index i of a path, and `router` is where the links before it
-- end.
module _ (links : List Passed) (i from to router : ℕ) (within : i < length links) (l : Passed) (is : l ≡ slice_index_or links i l)
    (whole : LeadFromTo router to (drop i links) ↔ LeadFromTo from to links) where
  rest : LeadFromTo router to (drop i links) ≡ LeadFromTo router to (l ∷ drop (i + 1) links)
  rest = ap (LeadFromTo router to) (at_drop_more (λ ls. ls) links i l within ∙ ap (λ (x : Passed). x ∷ drop (i + 1) links) (sym is))

  pub leads_on : l.from ≡ router → LeadFromTo l.to to (drop (i + 1) links) ↔ LeadFromTo from to links
  leads_on begins = (
    λ behind. whole.0 (coe 1 0 (k. rest k) (begins, behind)),
    λ all. (coe 0 1 (k. rest k) (whole.1 all)).1,
  )

  pub leads_off : (l.from ≡ router → ⊥) → LeadFromTo from to links → ⊥
  leads_off off all = off (coe 0 1 (k. rest k) (whole.1 all)).0
