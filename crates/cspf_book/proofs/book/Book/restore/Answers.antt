use Rattle.std.proofs.Common.{List, ◌+◌, ◌*◌, ◌^◌, ◌≤◌, ◌++◌, [], ◌∷◌, length, remove, refl, sym, ap, subst, ◌∙◌, arith}
use Rattle.std.proofs.lemmas.List.{length_push}
use Rattle.std.proofs.lemmas.List.Sums.{sum_by_push}
use Rattle.cspf_book.specs.declared.placement.Placement.{Placement}
use Rattle.cspf_book.specs.Placements.{id_of, counted}
use Rattle.cspf_book.specs.BookState.{links_placed}
use Rattle.cspf_book.specs.PlacedRoutes.{HaveDistinctIds, HaveOwnRoutes, ConnectTheirEnds}
use Rattle.cspf_book.specs.Kept.{IsCountOf}
use Rattle.cspf_book.specs.Leading.{moved_batch, IsMoveBatch}
use Rattle.cspf_book.specs.Effective.{effective}
use Rattle.cspf_book.specs.Restoring.{MayBeAdded}
use Rattle.cspf_book.specs.ById.{AreIdsOf}
use Rattle.cspf_book.proofs.ById.{ids_same, ids_placed}
use Rattle.cspf_book.proofs.Ids.{remove-behind, own_ids-placed}
use Rattle.cspf_book.proofs.KeptSums.{count_more, count_same, small_with, counted-placed}
use Rattle.cspf_book.proofs.MovedRoutes.{own_routes-placed, ends-placed}
use Rattle.cspf_book.proofs.Restored.{others-new, index_of-new, restoring_leads, unrestored}
use Rattle.cspf_book.proofs.StateParts.{state_of, same_state}
use Rattle.cspf_book.proofs.book.Book.restore.Goals as goal

pub put_in-requires-clause-counted : goal.put_in-requires-clause-counted
put_in-requires-clause-counted g c =
    let ps = c.self.inside.placements.items in
    let p = c.args.placement in
    let gone = ap (λ qs. remove qs c.len-at.result) c.make_room.ensures.items ∙ remove-behind ps c.len-at.result (omega (arith, c.self.inside.placements.ok.0, c.len-at.ensures)) in
    let counts = count_same c.self.inside.held.counts c.make_room.new.self.counts ps c.make_room.ensures.sums c.self.invariant.sums in
    subst (λ qs. IsCountOf c.restore.new.self.counts (qs ++ p ∷ [])) (sym gone) (count_more c.make_room.new.self.counts c.restore.new.self.counts ps p counts c.in-Ok-restore.ensures.more)

pub put_in-requires-clause-current : goal.put_in-requires-clause-current
put_in-requires-clause-current g c =
    let ps = c.self.inside.placements.items in
    let gone = ap (λ qs. remove qs c.len-at.result) c.make_room.ensures.items ∙ remove-behind ps c.len-at.result (omega (arith, c.self.inside.placements.ok.0, c.len-at.ensures)) in
    c.restore.ensures.effective ∙ c.make_room.ensures.effective ∙ c.self.invariant.current ∙ ap (effective c.self.inside.base) (sym gone)

pub invariant_of-self-in-Ok-restore : goal.invariant_of-self-in-Ok-restore
invariant_of-self-in-Ok-restore g c =
    let ps = c.self.inside.placements.items in
    let p = c.args.placement in
    let id = id_of p in
    let version = c.self.inside.version in
    let behind : length ps ≤ c.len-at.result = omega (arith, c.self.inside.placements.ok.0, c.len-at.ensures) in
    let gone = ap (λ qs. remove qs c.len-at.result) c.make_room.ensures.items ∙ remove-behind ps c.len-at.result behind in
    let items = c.put_in.ensures.items ∙ ap (λ qs. qs ++ p ∷ []) gone in
    let listed = c.put_in.ensures.items ∙ ap (λ qs. remove qs c.len-at.result ++ p ∷ []) c.make_room.ensures.items in
    let may = subst (λ (qs : List Placement). MayBeAdded qs p) c.deref.ensures.value c.in-Ok.ensures.ok in
    let same = others-new id ps may.place.new_id in
    let whole = ap (λ qs. qs ++ p ∷ []) same ∙ sym items in
    let index = index_of-new id ps may.place.new_id in
    record {
      current = c.put_in.ensures.current;
      sums = c.put_in.ensures.counted;
      small = λ k q. subst (λ qs. counted qs k q ≤ (version + 1) * 2 ^ 64) whole (small_with version _ _ p.request.bandwidth (c.self.invariant.small k q) c.in-Ok-restore.ensures.narrow (counted-placed id ps p k q));
      ids = subst (AreIdsOf c.put_in.new.self.ids (version + 1)) (sym listed)
          (ids_placed c.make_room.new.self.ids c.restore.new.self.ids c.put_in.new.self.ids version c.len-at.result id _ ps p
          (ids_same c.self.inside.held.ids c.make_room.new.self.ids version ps c.self.invariant.ids c.make_room.ensures.ids)
          c.self.invariant.own_ids (omega (arith, index, c.self.inside.placements.ok.0, c.len-at.ensures)) refl (ap (λ v. v.items) c.restore.ensures.versions) (ap (λ v. v.items) c.restore.ensures.bits) refl
          c.in-Ok-restore.ensures.entered c.put_in.ensures.ids);
      own_ids = subst HaveDistinctIds whole (own_ids-placed ps p c.self.invariant.own_ids);
      routes = subst HaveOwnRoutes whole (own_routes-placed id ps p c.self.invariant.routes (record { once = may.once; short = may.short }));
      ends = subst ConnectTheirEnds whole (ends-placed id ps p c.self.invariant.ends c.requires.ends);
      few = omega (arith, ap length items, length_push ps p, may.place.few);
      links = c.put_in.ensures.links;
      few_links = omega (arith, c.put_in.ensures.links, ap links_placed items, sum_by_push (λ (q : Placement). length q.route) ps p, may.few_links);
      one = c.put_in.ensures.one;
    }

pub returns-in-Ok-restore-clause-restored : goal.returns-in-Ok-restore-clause-restored
returns-in-Ok-restore-clause-restored g c =
    let ps = c.self.inside.placements.items in
    let gone = ap (λ qs. remove qs c.len-at.result) c.make_room.ensures.items ∙ remove-behind ps c.len-at.result (omega (arith, c.self.inside.placements.ok.0, c.len-at.ensures)) in
    let items = c.put_in.ensures.items ∙ ap (λ qs. qs ++ c.args.placement ∷ []) gone in
    rw (← c.self.view_is) (same_state c.self.inside.base (c.self.inside.version + 1) _ _ items)

pub returns-in-Ok-restore-clause-taken : goal.returns-in-Ok-restore-clause-taken
returns-in-Ok-restore-clause-taken g c =
    let base = c.self.inside.base in
    let ps = c.self.inside.placements.items in
    let p = c.args.placement in
    let version = c.self.inside.version in
    let gone = ap (λ qs. remove qs c.len-at.result) c.make_room.ensures.items ∙ remove-behind ps c.len-at.result (omega (arith, c.self.inside.placements.ok.0, c.len-at.ensures)) in
    let items = c.put_in.ensures.items ∙ ap (λ qs. qs ++ p ∷ []) gone in
    let may = subst (λ (qs : List Placement). MayBeAdded qs p) c.deref.ensures.value c.in-Ok.ensures.ok in
    let counts = count_same c.self.inside.held.counts c.make_room.new.self.counts ps c.make_room.ensures.sums c.self.invariant.sums in
    let made = moved_batch base (ps ++ p ∷ []) (version + 1) [] p.route in
    rw (← c.self.view_is) (
      made,
      subst (λ qs. IsMoveBatch (state_of base version ps) (id_of p) made (state_of base (version + 1) qs)) (sym items)
          (restoring_leads base version ps c.within_limits.ensures c.self.invariant.routes c.self.invariant.own_ids p may.place.new_id (record { once = may.once; short = may.short })),
      c.in-Ok-restore.ensures.taken ps counts,
    )

pub returns-in-Err-restore-clause-why : goal.returns-in-Err-restore-clause-why
returns-in-Err-restore-clause-why g c =
    let ps = c.self.inside.placements.items in
    let p = c.args.placement in
    let may = subst (λ (qs : List Placement). MayBeAdded qs p) c.deref.ensures.value c.in-Ok.ensures.ok in
    let counts = count_same c.self.inside.held.counts c.make_room.new.self.counts ps c.make_room.ensures.sums c.self.invariant.sums in
    rw (← c.self.view_is)
    (unrestored g.S.Taker.refuses c.self.inside.base c.self.inside.version ps c.within_limits.ensures c.self.invariant.routes c.self.invariant.own_ids p may c.args.taker.now c.restore.new.taker c.in-Err-restore.why (c.in-Err-restore.ensures.why ps counts))
