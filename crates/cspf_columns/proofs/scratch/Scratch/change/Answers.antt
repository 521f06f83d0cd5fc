use Rattle.std.proofs.Common.{Vec, ap, ◌∙◌, arith}
use Rattle.std.specs.declared.alloc.Global.{Global}
use Rattle.std.proofs.lemmas.List.Sorted.{length_permutation, All-permutation}
use Rattle.cspf_model.specs.declared.link.Link.{Link}
use Rattle.cspf_model.specs.Lemmas.CountedEnds.{HasListedEnds}
use Rattle.cspf_model.specs.Lemmas.LinkRows.{database_of}
use Rattle.cspf_model.proofs.Databases.ChangedRows.{all_relinked-permuted}
use Rattle.cspf_columns.proofs.RemainingRouters.{rows_listed_after}
use Rattle.cspf_columns.proofs.scratch.Scratch.change.Goals as goal

pub returns-clause-changed : goal.returns-clause-changed
returns-clause-changed c =
    let made = rw c.deref.ensures.value at c.merge.ensures.changed in
    ap (λ (v : Vec Link Global). database_of v.items) c.swap.ensures.x_after ∙ made
    ∙ all_relinked-permuted c.args.changes.now _ c.sort_changes.ensures.permutation c.requires.once (database_of c.args.columns.now.rows.items)

pub merge-requires-clause-short : goal.merge-requires-clause-short
merge-requires-clause-short c = rw c.deref.ensures.value (omega (arith, length_permutation _ _ c.sort_changes.ensures.permutation, c.requires.short))

pub merge-requires-clause-in_order : goal.merge-requires-clause-in_order
merge-requires-clause-in_order c = rw c.deref.ensures.value c.sort_changes.ensures.in_order

pub merge-requires-clause-known : goal.merge-requires-clause-known
merge-requires-clause-known c =
    rw c.deref.ensures.value (All-permutation (HasListedEnds c.args.columns.now.routers.items) _ _ c.sort_changes.ensures.permutation c.requires.known)

pub returns-clause-tied : goal.returns-clause-tied
returns-clause-tied c =
    let old = c.requires.tied in
    let columns = c.args.columns.now in
    let made = rw c.deref.ensures.value at c.merge.ensures.changed ∙ all_relinked-permuted c.args.changes.now _ c.sort_changes.ensures.permutation c.requires.once (database_of columns.rows.items) in
    let by_key = c.merge.ensures.by_key in
    let listed = rows_listed_after columns.routers.items _ c.merge.new.merged.items _ c.args.changes.now old.column by_key made c.requires.known in
    rw (c.swap.ensures.x_after, c.swap-2.ensures.x_after) (record {
      room = record {
        rows = omega (arith, c.args.self.now.room, c.clear.ensures.capacity, c.merge.ensures.capacity, c.sort_changes.ensures.capacity);
        routers = old.room.routers;
        ends = omega (arith, c.args.self.now.room_for_ends, c.clear-2.ensures.capacity, c.merge.ensures.capacity_of_ends);
        reverses = old.room.reverses;
        spans = old.room.spans;
      };
      by_key = by_key;
      rising = old.rising;
      few = old.few;
      column = record { froms = λ k d h. (listed k d h).0; ends = c.merge.ensures.ends };
    })
