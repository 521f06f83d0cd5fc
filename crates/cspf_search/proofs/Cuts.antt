-- A walk is a route exactly if it reaches the end state, the tail-end in the last leg.
use Rattle.std.proofs.Common.{◌≡◌, inl, inr, ℕ, suc, ◌+◌, ◌≤◌, List, [], ◌∷◌, ◌++◌, ◌⊎◌, length, map, refl, sym, ap, ◌∙◌, subst, arith, add-one, append_assoc, append-nil, rules}
use Rattle.std.proofs.lemmas.Grind.{common_steps}
use Rattle.std.specs.List.{AllByRecursion, flat_map}
use Rattle.std.proofs.lemmas.Option.{slice_get_past}
use Rattle.cspf_model.specs.declared.link.Link.{Link}
use Rattle.cspf_model.specs.declared.request.Request.{Request}
use Rattle.cspf_model.specs.Database.{Database, HasTransit}
use Rattle.cspf_model.specs.Admissible.{IsAdmissible, MayLeave}
use Rattle.cspf_model.specs.Walks.{AreJoined, IsWalk, end_of, routers_of, routers_passed}
use Rattle.cspf_model.specs.Targets.{IsTarget, IsTargetOf, IsInside}
use Rattle.cspf_model.specs.Legs.{AreLegs, IsCutInto}
use Rattle.cspf_model.specs.Routes.{IsRoute}
use Rattle.cspf_search.specs.States.{State, by_link, by_turn, Reaches, starts, steps, end_state}
use Rattle.cspf_graph.specs.Roles.{MayStand}

-- The link ends at a router with transit, or at the tail-end.
abbrev RunsOn : Database → Request → Link → Type 0
RunsOn d q l = HasTransit d l.to ⊎ (l.to ≡ q.to)

end_of-append : (a : ℕ) (v w : List Link) → end_of a (v ++ w) ≡ end_of (end_of a v) w
end_of-append a [] w = refl
end_of-append a (l ∷ v) w = end_of-append l.to v w

end_of-push : (a : ℕ) (w : List Link) (l : Link) → end_of a (w ++ (l ∷ [])) ≡ l.to
end_of-push a [] l = refl
end_of-push a (m ∷ w) l = end_of-push m.to w l

AreJoined-push : (a : ℕ) (w : List Link) (l : Link) → AreJoined a w → l.from ≡ end_of a w → AreJoined a (w ++ (l ∷ []))
AreJoined-push a [] l j e = (e, tt)
AreJoined-push a (m ∷ w) l j e = (j.0, AreJoined-push m.to w l j.1 e)

All-push : (P : Link → Type 0) (w : List Link) (l : Link) → AllByRecursion P w → P l → AllByRecursion P (w ++ (l ∷ []))
All-push P w l all here = grind (arith, common_steps)

All-append_parts : (P : Link → Type 0) (v w : List Link) → AllByRecursion P (v ++ w) → AllByRecursion P v × AllByRecursion P w
All-append_parts P [] w all = (tt, all)
All-append_parts P (l ∷ v) w all = let parts = All-append_parts P v w all.1 in ((all.0, parts.0), parts.1)

AreJoined-append_parts : (a : ℕ) (v w : List Link) → AreJoined a (v ++ w) → AreJoined a v × AreJoined (end_of a v) w
AreJoined-append_parts a [] w joined = (tt, joined)
AreJoined-append_parts a (l ∷ v) w joined = let parts = AreJoined-append_parts l.to v w joined.1 in ((joined.0, parts.0), parts.1)

module _ (d : Database) where
  -- If all links of a walk begin at routers with transit, and one more link does too, all links of
  -- the walk with this link appended begin at routers with transit.
  froms_push : (w : List Link) (l : Link) → AllByRecursion (HasTransit d) (map (λ m. m.from) w) → HasTransit d l.from
      → AllByRecursion (HasTransit d) (map (λ m. m.from) (w ++ (l ∷ [])))
  froms_push w l all here = grind (arith, common_steps)

  -- If a walk passes only through routers with transit, and may leave its last router by a link,
  -- the walk with this link appended passes only through routers with transit.
  passed_push : (w : List Link) (l : Link) → AllByRecursion (HasTransit d) (routers_passed w) → MayLeave d l.from (length w)
      → AllByRecursion (HasTransit d) (routers_passed (w ++ (l ∷ [])))
  passed_push w l all leaves = search (rules, froms_push)

  -- If all links of a walk begin at routers with transit, so do all links of each prefix of the
  -- walk.
  froms_before : (v w : List Link) → AllByRecursion (HasTransit d) (map (λ m. m.from) (v ++ w)) → AllByRecursion (HasTransit d) (map (λ m. m.from) v)
  froms_before [] w all = tt
  froms_before (m ∷ v) w all = (all.0, froms_before v w all.1)

  -- If a walk passes only through routers with transit, so does each prefix of the walk.
  passed_before : (v w : List Link) → AllByRecursion (HasTransit d) (routers_passed (v ++ w)) → AllByRecursion (HasTransit d) (routers_passed v)
  passed_before v w all = search (rules, froms_before)

  -- If all links of a walk begin at routers with transit, so does each single link of the walk.
  froms_at : (v : List Link) (l : Link) (w : List Link) → AllByRecursion (HasTransit d) (map (λ m. m.from) (v ++ (l ∷ w))) → HasTransit d l.from
  froms_at [] l w all = all.0
  froms_at (m ∷ v) l w all = froms_at v l w all.1

  -- If a walk passes only through routers with transit, each prefix of the walk may leave the
  -- router where the next link begins.
  leaves_at : (v : List Link) (l : Link) (w : List Link) → AllByRecursion (HasTransit d) (routers_passed (v ++ (l ∷ w))) → MayLeave d l.from (length v)
  leaves_at [] l w all = inr refl
  leaves_at (m ∷ v) l w all = inl (froms_at v l w all)

module _ (d : Database) (q : Request) where
  pub reached_walk : (w : List Link) (s : State) → Reaches d q w s → IsWalk d q w × (end_of q.from w ≡ s.router)
  reached_walk w s starts = (record { links = tt; joined = tt; transit = tt }, refl)
  reached_walk w s (steps {v} r (by_link {leg = k} l a enters leaves)) =
      let before = reached_walk v (record { leg = k; router = l.from }) r in (
        record {
          links = All-push (IsAdmissible d q) v l before.0.links a;
          joined = AreJoined-push q.from v l before.0.joined (sym before.1);
          transit = passed_push d v l before.0.transit leaves;
        },
        end_of-push q.from v l,
      )
  reached_walk w s (steps r (by_turn within target)) = reached_walk _ _ r

  -- Each state (a router in a leg) that a walk reaches is in a leg of the request: a leg to a hop,
  -- or the leg after the last hop.
  pub reached_leg : (w : List Link) (s : State) → Reaches d q w s → (1 ≤ s.leg) × (s.leg ≤ length q.hops + 1)
  reached_leg w s starts = (omega arith, omega arith)
  reached_leg w s (steps r (by_link l a enters leaves)) = reached_leg _ _ r
  reached_leg w s (steps r (by_turn within target)) = (omega arith, omega arith)

  -- If a walk reaches a state (a router in a leg), the state's router is inside the state's leg.
  reached_inside : (w : List Link) (s : State) → Reaches d q w s → IsInside d q s.leg s.router
  reached_inside w s starts = inr (inl refl)
  reached_inside w s (steps r (by_link l a enters leaves)) = enters.inside
  reached_inside w s (steps r (by_turn within target)) = inr (inl target.target)

  -- If a walk reaches a state (a router in a leg), and further links from this router are cut into
  -- the remaining legs, the walk with these links appended is cut into all legs of the request.
  reached_cut : (w : List Link) (s : State) → Reaches d q w s → (leg : List Link) (rest : List (List Link)) → AreLegs d q s.leg s.router (leg ∷ rest)
      → s.leg + length rest ≡ suc (length q.hops) → (legs : List (List Link)) × IsCutInto d q (w ++ (leg ++ flat_map (λ links. links) rest)) legs
  reached_cut w s starts leg rest are count = (leg ∷ rest, record { number = omega arith; whole = refl; each = are })
  reached_cut w s (steps r (by_link l a enters leaves)) leg rest are count =
      let longer = reached_cut _ _ r (l ∷ leg) rest (record { arrives = are.0.arrives; within = (reached_inside _ _ r, are.0.within) }, are.1) count in
      (longer.0, rw append_assoc longer.1)
  reached_cut w s (steps r (by_turn within target)) leg rest are count =
      reached_cut _ _ r [] (leg ∷ rest) (record { arrives = target.target; within = (reached_inside _ _ r, tt) }, are) (omega arith)

  -- If a walk to the tail-end passes only through routers with transit, each of its links ends at a
  -- router with transit or at the tail-end.
  pub run_on : (a : ℕ) (w : List Link) → AreJoined a w → AllByRecursion (HasTransit d) (routers_passed w) → end_of a w ≡ q.to → AllByRecursion (RunsOn d q) w
  run_on a [] joined passed end = tt
  run_on a (l ∷ []) joined passed end = (inr end, tt)
  run_on a (l ∷ (m ∷ w)) joined passed end = (inl (subst (HasTransit d) joined.1.0 passed.0), run_on l.to (m ∷ w) joined.1 passed.1 end)

  -- The only target of the leg after the last hop is the tail-end.
  pub last_target : (b : ℕ) → IsTarget d q (suc (length q.hops)) b ≡ (b ≡ q.to)
  last_target b = ap (λ o. IsTargetOf d q.to o b) (slice_get_past q.hops (length q.hops) (omega arith))

  -- The links of the remaining legs end at the tail-end.
  legs_end : (k a : ℕ) (first : List Link) (rest : List (List Link)) → k + length rest ≡ suc (length q.hops) → AreLegs d q k a (first ∷ rest)
      → end_of a (first ++ flat_map (λ links. links) rest) ≡ q.to
  legs_end k a first [] count legs =
      let last : k ≡ suc (length q.hops) = omega arith in
      ap (end_of a) (append-nil first) ∙ subst (λ (T : Type 0). T) (last_target (end_of a first)) (subst (λ i. IsTarget d q i (end_of a first)) last legs.0.arrives)
  legs_end k a first (second ∷ rest) count legs =
      end_of-append a first (second ++ flat_map (λ links. links) rest) ∙ legs_end (suc k) (end_of a first) second rest (omega arith) legs.1

  -- If a walk has reached a router in a leg, and joined links inside this leg are appended to it,
  -- the longer walk reaches the router at the end of these links in the same leg.
  along : (k : ℕ) (a : ℕ) (links v : List Link) → Reaches d q v (record { leg = k; router = a }) → AllByRecursion (IsAdmissible d q) links → AreJoined a links
      → AllByRecursion (IsInside d q k) (routers_of a links) → AllByRecursion (RunsOn d q) links → AllByRecursion (HasTransit d) (routers_passed (v ++ links)) → Reaches d q (v ++ links) (record { leg = k; router = end_of a links })
  along k a [] v r all joined within on passed = rw (append-nil v) r
  along k a (l ∷ ls) v r all joined within on passed =
      let here : Reaches d q v (record { leg = k; router = l.from }) = rw joined.0 r in
      rw (← append_assoc v (l ∷ []) ls) (along k l.to ls (v ++ (l ∷ [])) (steps here (by_link l all.0 (record { inside = within.1.0; through = on.0 }) (leaves_at d v l ls passed))) all.1 joined.1 within.1 on.1
      (rw append_assoc passed))

  -- If a route may visit the router where the links begin, and each link ends at a router with
  -- transit or at the tail-end, a route may also visit the router where the links end.
  stands_on : (a : ℕ) (links : List Link) → MayStand d q a → AllByRecursion (RunsOn d q) links → MayStand d q (end_of a links)
  stands_on a [] stands on = stands
  stands_on a (l ∷ links) stands (inl transit, on) = stands_on l.to links (inl transit) on
  stands_on a (l ∷ links) stands (inr end, on) = stands_on l.to links (inr (inr end)) on

  -- If the links of all remaining legs are appended to a walk, the longer walk reaches a target of
  -- the last leg (a router where this leg may end).
  through : (k : ℕ) (a : ℕ) (first : List Link) (rest : List (List Link)) (v : List Link) → Reaches d q v (record { leg = k; router = a }) → MayStand d q a
      → k + length rest ≡ suc (length q.hops) → AreLegs d q k a (first ∷ rest)
      → AllByRecursion (IsAdmissible d q) (first ++ flat_map (λ links. links) rest) → AreJoined a (first ++ flat_map (λ links. links) rest)
      → AllByRecursion (RunsOn d q) (first ++ flat_map (λ links. links) rest)
      → AllByRecursion (HasTransit d) (routers_passed (v ++ (first ++ flat_map (λ links. links) rest)))
      → (b : ℕ) × IsTarget d q (suc (length q.hops)) b × Reaches d q (v ++ (first ++ flat_map (λ links. links) rest)) (record { leg = suc (length q.hops); router = b })
  through k a first [] v r stands count legs all joined on passed =
      let here =
      along k a first v r (All-append_parts (IsAdmissible d q) first [] all).0 (AreJoined-append_parts a first [] joined).0 legs.0.within
      (All-append_parts (RunsOn d q) first [] on).0 (rw append-nil at passed) in
      let last : k ≡ suc (length q.hops) = omega arith in (
        end_of a first,
        subst (λ i. IsTarget d q i (end_of a first)) last legs.0.arrives,
        rw append-nil (subst (λ i. Reaches d q (v ++ first) (record { leg = i; router = end_of a first })) last here),
      )
  through k a first (second ∷ rest) v r stands count legs all joined on passed =
      let alls = All-append_parts (IsAdmissible d q) first (second ++ flat_map (λ links. links) rest) all in
      let ons = All-append_parts (RunsOn d q) first (second ++ flat_map (λ links. links) rest) on in
      let joins = AreJoined-append_parts a first (second ++ flat_map (λ links. links) rest) joined in
      let all_passed = rw (← append_assoc v first (second ++ flat_map (λ links. links) rest)) at passed in
      let here = along k a first v r alls.0 joins.0 legs.0.within ons.0 (passed_before d (v ++ first) (second ++ flat_map (λ links. links) rest) all_passed) in
      let after_first = stands_on a first stands ons.0 in
      let after =
      through (suc k) (end_of a first) second rest (v ++ first) (steps here (by_turn (omega arith) (record { target = legs.0.arrives; stands = after_first }))) after_first (omega arith) legs.1 alls.1 joins.1 ons.1 all_passed in
      (after.0, after.1, rw append_assoc at after.2)

  cut_reaches : (w : List Link) (legs : List (List Link)) → IsWalk d q w → IsCutInto d q w legs
      → (b : ℕ) × IsTarget d q (suc (length q.hops)) b × Reaches d q w (record { leg = suc (length q.hops); router = b })
  cut_reaches w [] walk cut = absurd (let number = cut.number in omega arith)
  cut_reaches w (first ∷ rest) walk cut =
      let whole = cut.whole in
      let count : 1 + length rest ≡ suc (length q.hops) = let number = cut.number in omega arith in
      let joined = subst (AreJoined q.from) (sym whole) walk.joined in
      let passed = subst (λ x. AllByRecursion (HasTransit d) (routers_passed x)) (sym whole) walk.transit in
      let all =
      through 1 q.from first rest [] starts (inr (inl refl)) count cut.each (subst (AllByRecursion (IsAdmissible d q)) (sym whole) walk.links) joined
      (run_on q.from (first ++ flat_map (λ links. links) rest) joined passed (legs_end 1 q.from first rest count cut.each)) passed in
      (all.0, all.1, subst (λ x. Reaches d q x (record { leg = suc (length q.hops); router = all.0 })) whole all.2)

  pub route_reaches : (w : List Link) → IsRoute d q w → Reaches d q w (end_state q)
  route_reaches w route =
      let reached = cut_reaches w route.cut.0 route.is_walk route.cut.1 in
      let end : reached.0 ≡ q.to = subst (λ (T : Type 0). T) (last_target reached.0) reached.1 in
      rw add-one (subst (λ b. Reaches d q w (record { leg = suc (length q.hops); router = b })) end reached.2)

  pub reaches_route : (w : List Link) → Reaches d q w (end_state q) → IsRoute d q w
  reaches_route w reached =
      let last : Reaches d q w (record { leg = suc (length q.hops); router = q.to }) = rw add-one at reached in
      let there : IsTarget d q (suc (length q.hops)) q.to = subst (λ (T : Type 0). T) (sym (last_target q.to)) refl in
      let cut = reached_cut w _ last [] [] (record { arrives = there; within = (reached_inside _ _ last, tt) }, tt) (omega arith) in
      record { is_walk = (reached_walk _ _ last).0; cut = (cut.0, rw append-nil at cut.1) }
