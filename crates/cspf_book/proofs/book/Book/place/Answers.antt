use Rattle.std.proofs.Common.{◌≡◌, List, Option, IfSome, IfNone, ◌+◌, ◌-◌, ◌*◌, ◌^◌, ◌<◌, ◌≤◌, ◌++◌, [], ◌∷◌, length, remove, refl, sym, ap, subst, ◌∙◌, arith}
use Rattle.std.proofs.lemmas.List.{length_push}
use Rattle.std.proofs.lemmas.Result.{err_from_is_err_and}
use Rattle.std.proofs.lemmas.List.Sums.{sum_by_push}
use Rattle.cspf_model.specs.Database.{Database}
use Rattle.cspf_model.specs.Best.{IsBestAnswer}
use Rattle.cspf_model.specs.Outcome.{answer_of}
use Rattle.cspf_book.specs.declared.placement.Placement.{Placement}
use Rattle.cspf_book.specs.Placements.{others, counted}
use Rattle.cspf_book.proofs.KeptSums.{count_more, small_with, counted-placed}
use Rattle.cspf_book.specs.BookState.{links_placed}
use Rattle.cspf_book.specs.PlacedRoutes.{HaveDistinctIds, HaveOwnRoutes, ConnectTheirEnds}
use Rattle.cspf_book.specs.Kept.{IsCountOf, HasSameSums, HasMoreAlong}
use Rattle.cspf_book.specs.Leading.{route_in, moved_batch}
use Rattle.cspf_book.specs.Takings.{IsPlacingTaken}
use Rattle.cspf_book.specs.Giving.{IsNotProposed}
use Rattle.cspf_book.specs.Offers.{IsOffered}
use Rattle.cspf_book.specs.Effective.{effective}
use Rattle.std.specs.List.{slice_get}
use Rattle.cspf_book.proofs.Ids.{index_of-le, remove-index_of, remove-behind, own_ids-placed, few_kept}
use Rattle.cspf_model.specs.declared.request.Request.{Request}
use Rattle.cspf_book.specs.ById.{AreIdsOf, HasRoomForOne, HasEntered}
use Rattle.cspf_book.proofs.ById.{ids_same, ids_placed}
use Rattle.cspf_book.proofs.StateParts.{state_of}
use Rattle.cspf_book.proofs.SteppedPaths.{ends-offered}
use Rattle.cspf_book.proofs.MovedRoutes.{route_at-index_of, own_routes-placed, ends-placed, placing_leads}
use Rattle.cspf_book.proofs.Proposals.{own_route-offered, id-offered, placing_taken, nothing_taken, unplaced}
use Rattle.cspf_book.proofs.Placing.{offered_of, others_left, answer_placed, room_for, links_left, small_aside, effective_aside}
use Rattle.cspf_book.proofs.book.Book.place.Goals as goal
use Rattle.cspf_book.proofs.book.Book.place.Goals.{in-Ok+in-None, in-Err}

pub returns-then-at-eq-MOST_PLACEMENTS-clause-why :
    goal.returns-then-at-eq-MOST_PLACEMENTS-clause-why
returns-then-at-eq-MOST_PLACEMENTS-clause-why g c =
    let ps = c.self.inside.placements.items in
    let id = c.args.request.now.id in
    let at = c.index_of-at.ensures c.self.inside.version ps c.self.invariant.ids in
    let le = index_of-le id ps in
    let few = c.self.invariant.few in
    let behind : length ps ≤ c.index_of-at.result = omega (arith, at, le, few, c.if-at-eq-MOST_PLACEMENTS.true) in
    let same = sym (remove-behind ps c.index_of-at.result behind) ∙ ap (remove ps) at ∙ remove-index_of id ps c.self.invariant.own_ids in
    rw (← c.self.view_is) (omega (arith, ap length same, at, le, few, c.if-at-eq-MOST_PLACEMENTS.true), refl)

pub returns-in_err-make_room-clause-why : goal.returns-in_err-make_room-clause-why
returns-in_err-make_room-clause-why g c =
    let refused = err_from_is_err_and c.from_residual.result c.from_residual.ensures.1 in
    rw (refused.1, refused.2, ← c.self.view_is)
    (room_for c.self.inside.placements.items c.args.request.now.id c.index_of-at.result (c.index_of-at.ensures c.self.inside.version c.self.inside.placements.items c.self.invariant.ids) c.self.invariant.own_ids c.self.invariant.few c.if-at-eq-MOST_PLACEMENTS.false, refl)

pub propose-requires-clause-small : goal.propose-requires-clause-small
propose-requires-clause-small g c =
    let ps = c.self.inside.placements.items in
    small_aside c.set_aside.new.self.counts c.set_aside.new.self.counts ps _ c.args.request.now.id c.index_of-at.result c.self.inside.version (c.deref.ensures.value ∙ c.make_room.ensures.items)
    (c.index_of-at.ensures c.self.inside.version ps c.self.invariant.ids) c.self.invariant.own_ids (record { at = λ k p _. refl }) c.set_aside.ensures.counted c.self.invariant.small (rw (← c.self.view_is) at c.requires.room)

pub put_in-requires-clause-id_room : goal.put_in-requires-clause-id_room
put_in-requires-clause-id_room g c =
    let room = subst HasRoomForOne (sym c.set_aside.ensures.ids) c.in_ok-make_room.ensures.id_room in
    record { versions = rw c.in-Ok.ensures.versions room.versions; bits = rw c.in-Ok.ensures.bits room.bits }

pub put_in-requires-clause-few : goal.put_in-requires-clause-few
put_in-requires-clause-few g c =
    let room = 1048576 - c.set_aside.new.self.links in
    let offered = offered_of c.args.request.now c.args.hold room (answer_of c.in-Ok.outcome) c.in-Some.placement (subst (IsOffered c.args.request.now c.args.hold room (answer_of c.in-Ok.outcome)) c.in-Some.is c.in-Ok.ensures.placement) in
    omega (arith, offered.1, c.propose.ensures.links, c.set_aside.ensures.fewer, c.make_room.ensures.links, c.self.invariant.few_links)

pub put_in-requires-clause-counted : goal.put_in-requires-clause-counted
put_in-requires-clause-counted g c =
    let more = subst (λ (o : Option Placement). IfSome o (λ p. HasMoreAlong c.set_aside.new.self.counts c.propose.new.self.counts p.route p.hold p.request.bandwidth)) c.in-Some.is c.in-Ok.ensures.more in
    count_more c.set_aside.new.self.counts c.propose.new.self.counts (remove c.make_room.new.placements.items c.index_of-at.result) c.in-Some.placement
    (subst (λ qs. IsCountOf c.set_aside.new.self.counts (remove qs c.index_of-at.result)) c.deref.ensures.value c.set_aside.ensures.counted) more

pub invariant_of-self-in-Some : goal.invariant_of-self-in-Some
invariant_of-self-in-Some g c =
    let ps = c.self.inside.placements.items in
    let id = c.args.request.now.id in
    let p = c.in-Some.placement in
    let room = 1048576 - c.set_aside.new.self.links in
    let at = c.index_of-at.ensures c.self.inside.version ps c.self.invariant.ids in
    let le = index_of-le id ps in
    let gone = ap (remove ps) at ∙ remove-index_of id ps c.self.invariant.own_ids in
    let listed = c.put_in.ensures.items ∙ ap (λ qs. remove qs c.index_of-at.result ++ p ∷ []) c.make_room.ensures.items in
    let items = listed ∙ ap (λ qs. qs ++ p ∷ []) gone in
    let offer = subst (IsOffered c.args.request.now c.args.hold room (answer_of c.in-Ok.outcome)) c.in-Some.is c.in-Ok.ensures.placement in
    let offered = offered_of c.args.request.now c.args.hold room (answer_of c.in-Ok.outcome) p offer in
    let same_id = ap (λ (q : Request). q.id) offered.0 in
    let narrow = subst (λ (o : Option Placement). IfSome o (λ q. q.request.bandwidth < 2 ^ 64)) c.in-Some.is c.in-Ok.ensures.narrow in
    let kept = few_kept ps c.index_of-at.result 65536 (omega (arith, at, le)) c.self.invariant.few c.if-at-eq-MOST_PLACEMENTS.false in
    let aside = ap (λ qs. links_placed (remove qs c.index_of-at.result)) (c.deref.ensures.value ∙ c.make_room.ensures.items) in
    let pushed = sum_by_push (λ (q : Placement). length q.route) (remove ps c.index_of-at.result) p in
    record {
      current = c.put_in.ensures.current;
      sums = c.put_in.ensures.counted;
      small = λ k q. subst (λ qs. counted qs k q ≤ (c.self.inside.version + 1) * 2 ^ 64) (sym items) (small_with c.self.inside.version _ _ p.request.bandwidth (c.self.invariant.small k q) narrow (counted-placed id ps p k q));
      ids = subst (AreIdsOf c.put_in.new.self.ids (c.self.inside.version + 1)) (sym listed)
          (ids_placed c.set_aside.new.self.ids c.propose.new.self.ids c.put_in.new.self.ids c.self.inside.version c.index_of-at.result id _ ps p
          (subst (λ x. AreIdsOf x c.self.inside.version ps) (sym c.set_aside.ensures.ids) (ids_same c.self.inside.held.ids c.make_room.new.self.ids c.self.inside.version ps c.self.invariant.ids c.make_room.ensures.ids))
          c.self.invariant.own_ids at same_id (ap (λ v. v.items) c.in-Ok.ensures.versions) (ap (λ v. v.items) c.in-Ok.ensures.bits) refl
          (subst (λ (o : Option Placement). IfSome o (λ _. HasEntered c.set_aside.new.self.ids c.propose.new.self.ids id (c.self.inside.version + 1))) c.in-Some.is c.in-Ok.ensures.entered) c.put_in.ensures.ids);
      own_ids = subst HaveDistinctIds (ap (λ i. others i ps ++ p ∷ []) same_id ∙ sym items) (own_ids-placed ps p c.self.invariant.own_ids);
      routes = subst HaveOwnRoutes (sym items) (own_routes-placed id ps p c.self.invariant.routes (own_route-offered c.args.request.now c.args.hold room (answer_of c.in-Ok.outcome) p offer));
      ends = subst ConnectTheirEnds (sym items) (ends-placed id ps p c.self.invariant.ends (ends-offered c.set_aside.new.self.effective c.args.request.now c.args.hold room (answer_of c.in-Ok.outcome) p c.in-Ok.ensures.best offer));
      few = omega (arith, ap length items, length_push (others id ps) p, kept, ap length gone);
      links = c.put_in.ensures.links;
      few_links = omega (arith, offered.1, c.set_aside.ensures.links, aside, pushed, c.put_in.ensures.links, ap links_placed listed, c.set_aside.ensures.fewer, c.make_room.ensures.links, c.self.invariant.few_links);
      one = c.put_in.ensures.one;
    }

pub returns-in-Some-clause-best : goal.returns-in-Some-clause-best
returns-in-Some-clause-best g c =
    let ps = c.self.inside.placements.items in
    let eff = effective_aside c.self.inside.base _ ps _ c.args.request.now.id c.index_of-at.result (c.deref.ensures.value ∙ c.make_room.ensures.items) (c.index_of-at.ensures c.self.inside.version ps c.self.invariant.ids) c.self.invariant.own_ids c.set_aside.ensures.current in
    rw (← c.self.view_is) (subst (λ (d : Database). IsBestAnswer d c.args.request.now (answer_of c.in-Ok.outcome)) eff c.in-Ok.ensures.best)

pub returns-in-Some-clause-few : goal.returns-in-Some-clause-few
returns-in-Some-clause-few g c =
    let ps = c.self.inside.placements.items in
    rw (← c.self.view_is) (room_for ps c.args.request.now.id c.index_of-at.result (c.index_of-at.ensures c.self.inside.version ps c.self.invariant.ids) c.self.invariant.own_ids c.self.invariant.few c.if-at-eq-MOST_PLACEMENTS.false)

pub returns-in-Some-clause-placed : goal.returns-in-Some-clause-placed
returns-in-Some-clause-placed g c =
    let ps = c.self.inside.placements.items in
    let id = c.args.request.now.id in
    let p = c.in-Some.placement in
    let room = 1048576 - c.set_aside.new.self.links in
    let at = c.index_of-at.ensures c.self.inside.version ps c.self.invariant.ids in
    let gone = ap (remove ps) at ∙ remove-index_of id ps c.self.invariant.own_ids in
    let items = c.put_in.ensures.items ∙ ap (λ qs. remove qs c.index_of-at.result ++ p ∷ []) c.make_room.ensures.items ∙ ap (λ qs. qs ++ p ∷ []) gone in
    rw (← c.self.view_is)
    (answer_placed (state_of c.self.inside.base c.self.inside.version ps) (state_of c.self.inside.base (c.self.inside.version + 1) c.put_in.new.placements.items) c.args.request.now c.args.hold room (answer_of c.in-Ok.outcome) p
    (subst (IsOffered c.args.request.now c.args.hold room (answer_of c.in-Ok.outcome)) c.in-Some.is c.in-Ok.ensures.placement)
    (links_left ps _ id c.index_of-at.result c.set_aside.ensures.links (c.deref.ensures.value ∙ c.make_room.ensures.items) gone c.set_aside.ensures.fewer c.make_room.ensures.links c.self.invariant.few_links) items refl refl)

pub returns-in-Some-clause-taken : goal.returns-in-Some-clause-taken
returns-in-Some-clause-taken g c =
    let base = c.self.inside.base in
    let ps = c.self.inside.placements.items in
    let q = c.args.request.now in
    let p = c.in-Some.placement in
    let answer = answer_of c.in-Ok.outcome in
    let room = 1048576 - c.set_aside.new.self.links in
    let next = c.self.inside.version + 1 in
    let at = c.index_of-at.ensures c.self.inside.version ps c.self.invariant.ids in
    let gone = ap (remove ps) at ∙ remove-index_of q.id ps c.self.invariant.own_ids in
    let items = c.put_in.ensures.items ∙ ap (λ qs. remove qs c.index_of-at.result ++ p ∷ []) c.make_room.ensures.items ∙ ap (λ qs. qs ++ p ∷ []) gone in
    let offer = subst (IsOffered q c.args.hold room answer) c.in-Some.is c.in-Ok.ensures.placement in
    let counts = subst (IsCountOf c.set_aside.new.self.counts) (others_left ps _ q.id c.index_of-at.result (c.deref.ensures.value ∙ c.make_room.ensures.items) at c.self.invariant.own_ids) c.set_aside.ensures.counted in
    let old = c.route_at-old.ensures ∙ ap (λ qs. route_in (slice_get qs c.index_of-at.result)) (c.deref-2.ensures.value ∙ c.make_room.ensures.items) ∙ route_at-index_of q.id c.index_of-at.result ps at in
    let taken = subst (λ (o : Option Placement). IfSome o (λ r. (placements : List Placement) → IsCountOf c.set_aside.new.self.counts placements
    → g.S.Taker.places c.args.taker.now (moved_batch base (placements ++ r ∷ []) next c.route_at-old.result.now r.route) answer c.propose.new.taker)) c.in-Some.is c.in-Ok.ensures.taken in
    let given = subst (λ r. g.S.Taker.places c.args.taker.now (moved_batch base (others q.id ps ++ p ∷ []) next r p.route) answer c.propose.new.taker) old (taken (others q.id ps) counts) in
    let moves = placing_leads base c.self.inside.version ps c.within_limits.ensures c.self.invariant.routes c.self.invariant.own_ids q.id p (id-offered q c.args.hold room answer p offer) (own_route-offered q c.args.hold room answer p offer) in
    rw (← c.self.view_is)
    (subst (λ qs. IsPlacingTaken g.S.Taker.places (state_of base c.self.inside.version ps) q.id c.args.taker.now answer (state_of base next qs) c.propose.new.taker) (sym items)
    (placing_taken g.S.Taker.places q c.args.hold room (state_of base c.self.inside.version ps) (state_of base next (others q.id ps ++ p ∷ [])) c.args.taker.now c.propose.new.taker _ p answer offer moves given))

pub set_back-requires-clause-small : goal.set_back-requires-clause-small
set_back-requires-clause-small g c =
    let ps = c.self.inside.placements.items in
    let same : HasSameSums c.set_aside.new.self.counts c.propose.new.self.counts = elim c.match-propose.branch [
      | in-Ok+in-None w ↦ subst (λ (o : Option Placement). IfNone o (HasSameSums c.set_aside.new.self.counts c.propose.new.self.counts)) w.in-None.is w.in-Ok.ensures.sums
      | in-Err w ↦ w.in-Err.ensures.err_sums
    ] in
    small_aside c.set_aside.new.self.counts c.propose.new.self.counts ps _ c.args.request.now.id c.index_of-at.result c.self.inside.version (c.deref.ensures.value ∙ c.make_room.ensures.items)
    (c.index_of-at.ensures c.self.inside.version ps c.self.invariant.ids) c.self.invariant.own_ids same c.set_aside.ensures.counted c.self.invariant.small (rw (← c.self.view_is) at c.requires.room)

pub returns-clause-best : goal.returns-clause-best
returns-clause-best g c =
    let ps = c.self.inside.placements.items in
    let eff = effective_aside c.self.inside.base _ ps _ c.args.request.now.id c.index_of-at.result (c.deref.ensures.value ∙ c.make_room.ensures.items) (c.index_of-at.ensures c.self.inside.version ps c.self.invariant.ids) c.self.invariant.own_ids c.set_aside.ensures.current in
    elim c.match-propose.branch [
      | in-Ok+in-None w ↦
          rw w.answer-is (rw (← c.self.view_is) (subst (λ (d : Database). IsBestAnswer d c.args.request.now (answer_of w.in-Ok.outcome)) eff w.in-Ok.ensures.best))
      | in-Err w ↦ rw w.answer-is tt
    ]

pub returns-clause-few : goal.returns-clause-few
returns-clause-few g c =
    let ps = c.self.inside.placements.items in
    elim c.match-propose.branch [
      | in-Ok+in-None w ↦ rw (w.answer-is, ← c.self.view_is) (room_for ps c.args.request.now.id c.index_of-at.result (c.index_of-at.ensures c.self.inside.version ps c.self.invariant.ids) c.self.invariant.own_ids c.self.invariant.few c.if-at-eq-MOST_PLACEMENTS.false)
      | in-Err w ↦ rw w.answer-is tt
    ]

pub returns-clause-taken : goal.returns-clause-taken
returns-clause-taken g c =
    let q = c.args.request.now in
    let room = 1048576 - c.set_aside.new.self.links in
    elim c.match-propose.branch [
      | in-Ok+in-None w ↦
          let answer = answer_of w.in-Ok.outcome in
          rw w.answer-is
          (nothing_taken g.S.Taker.places q c.args.hold room _ _ c.args.taker.now c.propose.new.taker answer (subst (IsOffered q c.args.hold room answer) w.in-None.is w.in-Ok.ensures.placement)
          (subst (λ (o : Option Placement). IfNone o (c.propose.new.taker ≡ c.args.taker.now)) w.in-None.is w.in-Ok.ensures.untaken))
      | in-Err w ↦ rw w.answer-is tt
    ]

pub returns-clause-why : goal.returns-clause-why
returns-clause-why g c =
    let base = c.self.inside.base in
    let ps = c.self.inside.placements.items in
    let q = c.args.request.now in
    let room = 1048576 - c.set_aside.new.self.links in
    let next = c.self.inside.version + 1 in
    let at = c.index_of-at.ensures c.self.inside.version ps c.self.invariant.ids in
    let all = c.deref.ensures.value ∙ c.make_room.ensures.items in
    let gone = ap (remove ps) at ∙ remove-index_of q.id ps c.self.invariant.own_ids in
    let eff = effective_aside base _ ps _ q.id c.index_of-at.result all at c.self.invariant.own_ids c.set_aside.ensures.current in
    let counts = subst (IsCountOf c.set_aside.new.self.counts) (others_left ps _ q.id c.index_of-at.result all at c.self.invariant.own_ids) c.set_aside.ensures.counted in
    let old = c.route_at-old.ensures ∙ ap (λ qs. route_in (slice_get qs c.index_of-at.result)) (c.deref-2.ensures.value ∙ c.make_room.ensures.items) ∙ route_at-index_of q.id c.index_of-at.result ps at in
    elim c.match-propose.branch [
      | in-Ok+in-None w ↦ rw w.answer-is tt
      | in-Err w ↦
          let not = subst (λ (d : Database). IsNotProposed g.S.Taker.refuses d q c.args.hold room base (others q.id ps) next c.route_at-old.result.now c.args.taker.now w.in-Err.why c.propose.new.taker) eff
          (w.in-Err.ensures.why (others q.id ps) counts) in
          let whole = subst (λ r. IsNotProposed g.S.Taker.refuses (effective base (others q.id ps)) q c.args.hold room base (others q.id ps) next r c.args.taker.now w.in-Err.why c.propose.new.taker) old not in
          rw (w.answer-is, ← c.self.view_is)
          (unplaced g.S.Taker.refuses base c.self.inside.version ps c.within_limits.ensures c.self.invariant.routes c.self.invariant.own_ids c.args.taker.now c.propose.new.taker q c.args.hold room
          (room_for ps q.id c.index_of-at.result at c.self.invariant.own_ids c.self.invariant.few c.if-at-eq-MOST_PLACEMENTS.false)
          (links_left ps _ q.id c.index_of-at.result c.set_aside.ensures.links all gone c.set_aside.ensures.fewer c.make_room.ensures.links c.self.invariant.few_links) w.in-Err.why whole)
    ]
