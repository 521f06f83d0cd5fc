use Rattle.std.proofs.Common.{[], ◌+◌, ◌<◌, ◌≤◌, length, remove, refl, sym, ap, subst, ◌∙◌, arith}
use Rattle.std.specs.List.{slice_get}
use Rattle.std.proofs.lemmas.Bool.{false≢true}
use Rattle.std.proofs.lemmas.List.{length-map}
use Rattle.std.proofs.lemmas.List.Edits.{length-remove}
use Rattle.std.proofs.lemmas.Result.{err_from_is_err_and}
use Rattle.cspf_book.specs.Placements.{counted, others}
use Rattle.cspf_book.specs.Kept.{IsCountOf}
use Rattle.cspf_book.specs.declared.versions.Ids.{Ids}
use Rattle.cspf_book.specs.ById.{AreIdsOf, HasForgotten}
use Rattle.cspf_book.specs.RouterBits.{bits_of}
use Rattle.cspf_book.proofs.ById.{ids_forgotten}
use Rattle.cspf_book.proofs.Covered.{counted-others}
use Rattle.cspf_book.proofs.KeptSums.{count_same, small_after}
use Rattle.cspf_book.specs.Effective.{effective}
use Rattle.cspf_book.specs.BookState.{links_placed}
use Rattle.cspf_book.specs.Leading.{route_in, route_of, moved_batch, IsMoveBatch}
use Rattle.cspf_book.specs.Giving.{IsReleaseNotGiven}
use Rattle.cspf_book.proofs.Ids.{index_of-le, none-behind, id_at-index_of, remove-index_of, own_ids-others}
use Rattle.cspf_book.proofs.StateParts.{state_of, same_state}
use Rattle.cspf_book.proofs.MovedRoutes.{route_at-index_of, own_routes-others, ends-others, releasing_leads}
use Rattle.cspf_book.proofs.Placing.{others_left, small_aside}
use Rattle.cspf_book.proofs.Proposals.{unreleased}
use Rattle.cspf_book.proofs.book.Book.release.Goals as goal

pub returns-then-at-len-clause-why : goal.returns-then-at-len-clause-why
returns-then-at-len-clause-why g c =
    let ps = c.self.inside.placements.items in
    let at = c.index_of-at.ensures c.self.inside.version ps c.self.invariant.ids in
    let many = c.self.inside.placements.ok.0 in
    let none = none-behind c.args.id ps (omega (arith, at, many, c.if-at-len.true, c.len.ensures)) in
    rw (← c.self.view_is) (λ has. false≢true (sym none ∙ has), refl)

pub returns-in_err-enter_at-clause-why : goal.returns-in_err-enter_at-clause-why
returns-in_err-enter_at-clause-why g c =
    let ps = c.self.inside.placements.items in
    let at = c.index_of-at.ensures c.self.inside.version ps c.self.invariant.ids in
    let many = c.self.inside.placements.ok.0 in
    let le = index_of-le c.args.id ps in
    let refused = err_from_is_err_and c.from_residual.result c.from_residual.ensures.1 in
    rw (refused.1, refused.2, ← c.self.view_is) (id_at-index_of c.args.id ps (omega (arith, at, le, many, c.if-at-len.false, c.len.ensures)), refl)

pub forget-requires-clause-versions : goal.forget-requires-clause-versions
forget-requires-clause-versions g c =
    let ps = c.self.inside.placements.items in
    let at = c.index_of-at.ensures c.self.inside.version ps c.self.invariant.ids in
    let le = index_of-le c.args.id ps in
    omega (arith, at, le, c.self.inside.placements.ok.0, c.self.invariant.ids.many, ap (λ (x : Ids). length x.versions.items) c.set_aside.ensures.ids, c.if-at-len.false, c.len.ensures)

pub forget-requires-clause-bits : goal.forget-requires-clause-bits
forget-requires-clause-bits g c =
    let ps = c.self.inside.placements.items in
    let at = c.index_of-at.ensures c.self.inside.version ps c.self.invariant.ids in
    let le = index_of-le c.args.id ps in
    let many = ap (λ (x : Ids). length x.bits.items) c.set_aside.ensures.ids ∙ ap length c.self.invariant.ids.bits ∙ length-map ps bits_of in
    omega (arith, at, le, c.self.inside.placements.ok.0, many, c.if-at-len.false, c.len.ensures)

pub invariant_of-self-in-Ok : goal.invariant_of-self-in-Ok
invariant_of-self-in-Ok g c =
    let ps = c.self.inside.placements.items in
    let at = c.index_of-at.ensures c.self.inside.version ps c.self.invariant.ids in
    let many = c.self.inside.placements.ok.0 in
    let le = index_of-le c.args.id ps in
    let within : c.index_of-at.result < length ps = omega (arith, at, le, many, c.if-at-len.false, c.len.ensures) in
    let gone = c.take_out.ensures.items ∙ ap (remove ps) at ∙ remove-index_of c.args.id ps c.self.invariant.own_ids in
    record {
      current =
          c.set_aside.ensures.current
          ∙ ap (λ qs. effective c.self.inside.base (remove qs c.index_of-at.result)) c.deref-2.ensures.value
          ∙ ap (effective c.self.inside.base) (sym c.take_out.ensures.items);
      sums =
          count_same c.set_aside.new.self.counts c.forget_at.new.counts c.take_out.new.placements.items c.forget_at.ensures
          (subst (IsCountOf c.set_aside.new.self.counts) (ap (λ qs. remove qs c.index_of-at.result) c.deref-2.ensures.value ∙ sym c.take_out.ensures.items) c.set_aside.ensures.counted);
      small = λ k p. small_after c.self.inside.version _ _ (c.self.invariant.small k p) (subst (λ qs. counted qs k p ≤ counted ps k p) (sym gone) (counted-others c.args.id ps k p));
      ids = subst (AreIdsOf c.forget.new.self (c.self.inside.version + 1)) (sym c.take_out.ensures.items)
          (ids_forgotten c.self.inside.held.ids c.forget.new.self c.self.inside.version c.index_of-at.result c.args.id ps c.self.invariant.ids c.self.invariant.own_ids at
          (subst (λ x. HasForgotten x c.forget.new.self c.args.id c.index_of-at.result) c.set_aside.ensures.ids c.forget.ensures));
      own_ids = rw gone (own_ids-others c.args.id ps c.self.invariant.own_ids);
      routes = rw gone (own_routes-others c.args.id ps c.self.invariant.routes);
      ends = rw gone (ends-others c.args.id ps c.self.invariant.ends);
      few = omega (arith, ap length c.take_out.ensures.items, length-remove ps c.index_of-at.result within, c.self.invariant.few);
      links = c.set_aside.ensures.links ∙ ap (λ qs. links_placed (remove qs c.index_of-at.result)) c.deref-2.ensures.value ∙ ap links_placed (sym c.take_out.ensures.items);
      few_links = omega (arith, c.set_aside.ensures.fewer, c.self.invariant.few_links);
      one = c.set_aside.ensures.one;
    }

pub set_back-requires-clause-small : goal.set_back-requires-clause-small
set_back-requires-clause-small g c =
    let ps = c.self.inside.placements.items in
    small_aside c.set_aside.new.self.counts c.set_aside.new.self.counts ps _ c.args.id c.index_of-at.result c.self.inside.version c.deref-2.ensures.value
    (c.index_of-at.ensures c.self.inside.version ps c.self.invariant.ids) c.self.invariant.own_ids (record { at = λ k p _. refl }) c.set_aside.ensures.counted c.self.invariant.small (rw (← c.self.view_is) at c.requires)

pub returns-in-Ok-clause-ok : goal.returns-in-Ok-clause-ok
returns-in-Ok-clause-ok g c =
    let ps = c.self.inside.placements.items in
    let at = c.index_of-at.ensures c.self.inside.version ps c.self.invariant.ids in
    let many = c.self.inside.placements.ok.0 in
    let le = index_of-le c.args.id ps in
    rw (← c.self.view_is) (id_at-index_of c.args.id ps (omega (arith, at, le, many, c.if-at-len.false, c.len.ensures)))

pub returns-in-Ok-clause-released : goal.returns-in-Ok-clause-released
returns-in-Ok-clause-released g c =
    let ps = c.self.inside.placements.items in
    let at = c.index_of-at.ensures c.self.inside.version ps c.self.invariant.ids in
    let gone = c.take_out.ensures.items ∙ ap (remove ps) at ∙ remove-index_of c.args.id ps c.self.invariant.own_ids in
    rw (← c.self.view_is) (same_state c.self.inside.base (c.self.inside.version + 1) _ _ gone)

pub returns-in-Ok-clause-taken : goal.returns-in-Ok-clause-taken
returns-in-Ok-clause-taken g c =
    let base = c.self.inside.base in
    let ps = c.self.inside.placements.items in
    let id = c.args.id in
    let next = c.self.inside.version + 1 in
    let at = c.index_of-at.ensures c.self.inside.version ps c.self.invariant.ids in
    let gone = c.take_out.ensures.items ∙ ap (remove ps) at ∙ remove-index_of id ps c.self.invariant.own_ids in
    let counts = subst (IsCountOf c.set_aside.new.self.counts) (others_left ps _ id c.index_of-at.result c.deref-2.ensures.value at c.self.invariant.own_ids) c.set_aside.ensures.counted in
    let old = c.route_at-old.ensures ∙ ap (λ qs. route_in (slice_get qs c.index_of-at.result)) c.deref-3.ensures.value ∙ route_at-index_of id c.index_of-at.result ps at in
    let moves = releasing_leads base c.self.inside.version ps c.within_limits.ensures c.self.invariant.routes c.self.invariant.own_ids id in
    rw (← c.self.view_is) (
      moved_batch base (others id ps) next (route_of id ps) [],
      subst (λ qs. IsMoveBatch (state_of base c.self.inside.version ps) id (moved_batch base (others id ps) next (route_of id ps) []) (state_of base next qs)) (sym gone) moves,
      subst (λ r. g.S.Taker.takes c.args.taker.now (moved_batch base (others id ps) next r []) c.give_release.new.taker) old (c.in-Ok.ensures.taken (others id ps) counts),
    )

pub returns-in-Err-clause-why : goal.returns-in-Err-clause-why
returns-in-Err-clause-why g c =
    let base = c.self.inside.base in
    let ps = c.self.inside.placements.items in
    let id = c.args.id in
    let next = c.self.inside.version + 1 in
    let at = c.index_of-at.ensures c.self.inside.version ps c.self.invariant.ids in
    let many = c.self.inside.placements.ok.0 in
    let le = index_of-le id ps in
    let counts = subst (IsCountOf c.set_aside.new.self.counts) (others_left ps _ id c.index_of-at.result c.deref-2.ensures.value at c.self.invariant.own_ids) c.set_aside.ensures.counted in
    let old = c.route_at-old.ensures ∙ ap (λ qs. route_in (slice_get qs c.index_of-at.result)) c.deref-3.ensures.value ∙ route_at-index_of id c.index_of-at.result ps at in
    rw (← c.self.view_is)
    (unreleased g.S.Taker.refuses base c.self.inside.version ps c.within_limits.ensures c.self.invariant.routes c.self.invariant.own_ids c.args.taker.now c.give_release.new.taker id
    (id_at-index_of id ps (omega (arith, at, le, many, c.if-at-len.false, c.len.ensures))) c.in-Err.why
    (subst (λ r. IsReleaseNotGiven g.S.Taker.refuses c.args.taker.now (moved_batch base (others id ps) next r []) c.in-Err.why c.give_release.new.taker) old (c.in-Err.ensures.why (others id ps) counts)))
