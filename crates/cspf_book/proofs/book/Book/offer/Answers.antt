use Rattle.std.proofs.Common.{◌-◌, ◌≤◌, length, remove, refl, sym, ap, subst, ◌∙◌, arith}
use Rattle.std.proofs.lemmas.Result.{err_from_is_err_and}
use Rattle.cspf_model.specs.Database.{Database}
use Rattle.cspf_model.specs.Best.{IsBestAnswer}
use Rattle.cspf_model.specs.Outcome.{answer_of}
use Rattle.cspf_book.specs.Offers.{IsOfferRefused}
use Rattle.cspf_book.proofs.Ids.{index_of-le, remove-index_of, remove-behind}
use Rattle.cspf_book.proofs.StateParts.{state_of}
use Rattle.cspf_book.proofs.Placing.{may_be_placed, place_error, room_for, links_left, small_aside, effective_aside}
use Rattle.cspf_book.proofs.book.Book.offer.Goals as goal
use Rattle.cspf_book.proofs.book.Book.offer.Goals.{in-Ok+in-Some-1, in-Ok+in-None-1, in-Err}

pub returns-then-at-eq-MOST_PLACEMENTS-clause-why :
    goal.returns-then-at-eq-MOST_PLACEMENTS-clause-why
returns-then-at-eq-MOST_PLACEMENTS-clause-why c =
    let ps = c.self.inside.placements.items in
    let id = c.args.request.now.id in
    let at = c.index_of-at.ensures c.self.inside.version ps c.self.invariant.ids in
    let le = index_of-le id ps in
    let few = c.self.invariant.few in
    let behind : length ps ≤ c.index_of-at.result = omega (arith, at, le, few, c.if-at-eq-MOST_PLACEMENTS.true) in
    let same = sym (remove-behind ps c.index_of-at.result behind) ∙ ap (remove ps) at ∙ remove-index_of id ps c.self.invariant.own_ids in
    rw (← c.self.view_is) (omega (arith, ap length same, at, le, few, c.if-at-eq-MOST_PLACEMENTS.true))

pub returns-in_err-enter_at-clause-why : goal.returns-in_err-enter_at-clause-why
returns-in_err-enter_at-clause-why c =
    let refused = err_from_is_err_and c.from_residual.result c.from_residual.ensures.1 in
    rw (refused.1, refused.2, ← c.self.view_is)
    (room_for c.self.inside.placements.items c.args.request.now.id c.index_of-at.result (c.index_of-at.ensures c.self.inside.version c.self.inside.placements.items c.self.invariant.ids) c.self.invariant.own_ids c.self.invariant.few c.if-at-eq-MOST_PLACEMENTS.false)

pub set_back-requires-clause-small : goal.set_back-requires-clause-small
set_back-requires-clause-small c =
    let ps = c.self.inside.placements.items in
    small_aside c.set_aside.new.self.counts c.set_aside.new.self.counts ps _ c.args.request.now.id c.index_of-at.result c.self.inside.version c.deref-2.ensures.value
    (c.index_of-at.ensures c.self.inside.version ps c.self.invariant.ids) c.self.invariant.own_ids (record { at = λ k p _. refl }) c.set_aside.ensures.counted c.self.invariant.small (rw (← c.self.view_is) at c.requires.room)

pub returns-clause-best : goal.returns-clause-best
returns-clause-best c =
    let ps = c.self.inside.placements.items in
    let eff = effective_aside c.self.inside.base _ ps _ c.args.request.now.id c.index_of-at.result c.deref-2.ensures.value (c.index_of-at.ensures c.self.inside.version ps c.self.invariant.ids) c.self.invariant.own_ids c.set_aside.ensures.current in
    elim c.match-find_offer.branch [
      | in-Ok+in-Some-1 w ↦ rw w.answer-is (rw (← c.self.view_is) (subst (λ (d : Database). IsBestAnswer d c.args.request.now (answer_of w.in-Ok.outcome)) eff w.in-Ok.ensures.best))
      | in-Ok+in-None-1 w ↦ rw w.answer-is (rw (← c.self.view_is) (subst (λ (d : Database). IsBestAnswer d c.args.request.now (answer_of w.in-Ok.outcome)) eff w.in-Ok.ensures.best))
      | in-Err w ↦ rw w.answer-is tt
    ]

pub returns-clause-few : goal.returns-clause-few
returns-clause-few c =
    let ps = c.self.inside.placements.items in
    let few = room_for ps c.args.request.now.id c.index_of-at.result (c.index_of-at.ensures c.self.inside.version ps c.self.invariant.ids) c.self.invariant.own_ids c.self.invariant.few c.if-at-eq-MOST_PLACEMENTS.false in
    elim c.match-find_offer.branch [
      | in-Ok+in-Some-1 w ↦ rw (w.answer-is, ← c.self.view_is) few
      | in-Ok+in-None-1 w ↦ rw (w.answer-is, ← c.self.view_is) few
      | in-Err w ↦ rw w.answer-is tt
    ]

pub returns-clause-may : goal.returns-clause-may
returns-clause-may c =
    let base = c.self.inside.base in
    let ps = c.self.inside.placements.items in
    let q = c.args.request.now in
    let room = 1048576 - c.set_aside.new.self.links in
    let at = c.index_of-at.ensures c.self.inside.version ps c.self.invariant.ids in
    let gone = ap (remove ps) at ∙ remove-index_of q.id ps c.self.invariant.own_ids in
    let left = links_left ps _ q.id c.index_of-at.result c.set_aside.ensures.links c.deref-2.ensures.value gone c.set_aside.ensures.fewer refl c.self.invariant.few_links in
    elim c.match-find_offer.branch [
      | in-Ok+in-Some-1 w ↦ rw (w.answer-is, ← c.self.view_is) (may_be_placed (state_of base c.self.inside.version ps) q c.args.hold room (answer_of w.in-Ok.outcome) _ w.in-Ok.ensures.placement left)
      | in-Ok+in-None-1 w ↦ rw (w.answer-is, ← c.self.view_is) (may_be_placed (state_of base c.self.inside.version ps) q c.args.hold room (answer_of w.in-Ok.outcome) _ w.in-Ok.ensures.placement left)
      | in-Err w ↦ rw w.answer-is tt
    ]

pub returns-clause-why : goal.returns-clause-why
returns-clause-why c =
    let base = c.self.inside.base in
    let ps = c.self.inside.placements.items in
    let q = c.args.request.now in
    let room = 1048576 - c.set_aside.new.self.links in
    let at = c.index_of-at.ensures c.self.inside.version ps c.self.invariant.ids in
    let gone = ap (remove ps) at ∙ remove-index_of q.id ps c.self.invariant.own_ids in
    let eff = effective_aside base _ ps _ q.id c.index_of-at.result c.deref-2.ensures.value at c.self.invariant.own_ids c.set_aside.ensures.current in
    let few = room_for ps q.id c.index_of-at.result at c.self.invariant.own_ids c.self.invariant.few c.if-at-eq-MOST_PLACEMENTS.false in
    let left = links_left ps _ q.id c.index_of-at.result c.set_aside.ensures.links c.deref-2.ensures.value gone c.set_aside.ensures.fewer refl c.self.invariant.few_links in
    elim c.match-find_offer.branch [
      | in-Ok+in-Some-1 w ↦ rw w.answer-is tt
      | in-Ok+in-None-1 w ↦ rw w.answer-is tt
      | in-Err w ↦
          rw (w.answer-is, ← c.self.view_is)
          (place_error (state_of base c.self.inside.version ps) q room w.in-Err.why few left (subst (λ (d : Database). IsOfferRefused d q room w.in-Err.why) eff w.in-Err.ensures.refused))
    ]
