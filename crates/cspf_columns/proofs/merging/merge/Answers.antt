use Rattle.std.proofs.Common.{◌+◌, List, ◌∷◌, ◌++◌, length, drop, get_or, refl, sym, ap, subst, ◌∙◌, arith}
use Rattle.std.proofs.lemmas.List.{drop_more, get_or_read}
use Rattle.std.proofs.lemmas.List.Elements.{All-nil}
use Rattle.cspf_model.specs.declared.link.Link.{Link}
use Rattle.cspf_model.specs.declared.batch.Change.{Change}
use Rattle.cspf_model.specs.Database.{Database}
use Rattle.cspf_model.specs.Changes.{change_key_cmp, key_changed}
use Rattle.cspf_model.specs.Lemmas.LinkChanges.{all_relinked}
use Rattle.cspf_columns.specs.MergeSteps.{EndsBelow}
use Rattle.cspf_model.specs.Lemmas.LinkRows.{database_of}
use Rattle.cspf_columns.proofs.EndColumn.{length-ends, ends_joined, ends_between}
use Rattle.cspf_columns.proofs.merging.merge.Goals as goal

pub loop-change-init : goal.loop-change-init
loop-change-init c = record {
  bound = omega arith;
  left = ap (λ (xs : List Link). all_relinked (database_of (xs ++ c.args.columns.now.rows.items)) c.args.changes.now) c.requires.empty;
  joined = rw c.requires.empty c.requires.tied.by_key;
  below = λ d h e some. absurd (omega (arith, some, ap length c.requires.empty));
  longer = omega (arith, ap length c.requires.empty);
  capacity = omega arith;
  capacity_of_ends = omega arith;
  ends = rw (c.requires.empty, c.requires.empty_ends) (record { within = All-nil _; each = refl });
}

pub merge_one-at-requires-clause-below : goal.merge_one-at-requires-clause-below
merge_one-at-requires-clause-below c =
    subst (λ (b : Change). EndsBelow c.loop-change.merged.items (key_changed b)) (sym c.change-item.is) (c.loop-change.invariant.below c.change-item.result c.loop-change-test.true)

pub loop-change-preserved : goal.loop-change-preserved
loop-change-preserved c =
    let changes = c.args.changes.now in
    let i = c.loop-change.change-index in
    let change = c.change-item.result in
    let before = c.loop-change.invariant in
    let step = c.merge_one-at.ensures.step in
    let d : Database = database_of (c.loop-change.merged.items ++ drop c.loop-change.at c.args.columns.now.rows.items) in
    record {
      bound = step.bound;
      left =
          ap (λ (e : Database). all_relinked e (drop (i + 1) changes)) step.changed ∙ ap (λ (b : Change). all_relinked d (b ∷ drop (i + 1) changes)) c.change-item.is
          ∙ sym (ap (all_relinked d) (drop_more changes i change c.loop-change-test.true)) ∙ before.left;
      joined = step.joined;
      below = λ e h. c.merge_one-at.ensures.below _
          (ap (λ (b : Change). change_key_cmp (key_changed b) (key_changed (get_or changes (i + 1) e))) (get_or_read changes i change c.loop-change-test.true c.change-item.is e) ∙ c.requires.in_order i e h);
      longer = omega (arith, step.longer, before.longer);
      capacity = omega (arith, c.merge_one-at.ensures.capacity, before.capacity);
      capacity_of_ends = omega (arith, c.merge_one-at.ensures.capacity_of_ends, before.capacity_of_ends);
      ends = c.merge_one-at.ensures.ends;
    }

pub returns-clause-ends : goal.returns-clause-ends
returns-clause-ends c =
    rw (c.extend_within.ensures.items, c.extend_within-2.ensures.items, c.deref.ensures.value, c.deref-2.ensures.value, length-ends _ _ _ c.requires.tied.column.ends)
    (ends_joined _ _ c.args.columns.now.routers.items _ _ c.loop-change.invariant.ends (ends_between c.args.columns.now.rows.items c.args.columns.now.routers.items c.args.columns.now.ends.items c.loop-change.at (length c.args.columns.now.rows.items) c.requires.tied.column.ends))
