use Rattle.std.proofs.Common.{map, ap, ◌∙◌, arith}
use Rattle.std.specs.Ordering.{eq_by_cmp}
use Rattle.std.proofs.lemmas.Cmp.{eq_by_cmp_equiv}
use Rattle.std.proofs.lemmas.List.Sorted.{All-permutation, IsPermutation-map}
use Rattle.std.proofs.lemmas.Map.Keys.{IsDistinct-IsPermutation}
use Rattle.cspf_model.specs.Changes.{change_key_cmp}
use Rattle.cspf_model.specs.Changes.{key_changed}
use Rattle.cspf_columns.specs.MergeSteps.{IsPlaceOfChange}
use Rattle.cspf_model.proofs.Databases.Keys.{change_keys_total}
use Rattle.cspf_columns.proofs.SortedChanges.{change_of, permuted, in_order}
use Rattle.cspf_columns.proofs.merging.sort_changes.Goals as goal

pub copy_changes-requires-clause-places : goal.copy_changes-requires-clause-places
copy_changes-requires-clause-places c = rw c.deref.ensures.value (All-permutation (IsPlaceOfChange c.args.changes.now) _ _ c.sort_unstable.ensures.permutation c.list_order.ensures.places)

pub copy_changes-requires-clause-room : goal.copy_changes-requires-clause-room
copy_changes-requires-clause-room c = rw c.deref.ensures.value (omega (arith, c.sort_unstable.ensures.len, c.list_order.ensures.len, c.requires.room))

pub returns-clause-permutation : goal.returns-clause-permutation
returns-clause-permutation c =
    let changes = c.args.changes.now in
    permuted changes _ _ _ c.list_order.ensures.each c.sort_unstable.ensures.permutation (λ d. c.copy_changes.ensures.each d ∙ ap (map (change_of changes d)) c.deref.ensures.value)

pub returns-clause-in_order : goal.returns-clause-in_order
returns-clause-in_order c =
    let changes = c.args.changes.now in
    let moved = permuted changes _ _ _ c.list_order.ensures.each c.sort_unstable.ensures.permutation (λ d. c.copy_changes.ensures.each d ∙ ap (map (change_of changes d)) c.deref.ensures.value) in
    in_order changes c.sort_unstable.new.self.items _ (All-permutation (IsPlaceOfChange changes) _ _ c.sort_unstable.ensures.permutation c.list_order.ensures.places)
    (λ d. c.copy_changes.ensures.each d ∙ ap (map (change_of changes d)) c.deref.ensures.value) c.sort_unstable.ensures.sorted
    (IsDistinct-IsPermutation (eq_by_cmp change_key_cmp) (eq_by_cmp_equiv change_keys_total).symm _ _ (IsPermutation-map key_changed _ _ moved) c.requires.once)
