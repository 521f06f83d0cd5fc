use Rattle.std.proofs.Common.{◌≡◌, ◌+◌, true, false, List, [], ◌∷◌, ◌++◌, length, refl, sym, ap, subst, ◌∙◌, arith}
use Rattle.std.specs.Int.{from_bool}
use Rattle.std.specs.List.{AllWithin, between}
use Rattle.std.specs.declared.cmp.Ordering.TheVariants.{Less, Greater}
use Rattle.std.proofs.lemmas.List.Edits.{length-between}
use Rattle.cspf_model.specs.declared.link.Link.{Link}
use Rattle.cspf_model.specs.Database.{key_of}
use Rattle.cspf_columns.specs.MergeSteps.{EndsBelow, IsMergedUpTo}
use Rattle.cspf_model.specs.Lemmas.RowsLeft.{links_put}
use Rattle.cspf_model.specs.Changes.{change_key_cmp, link_key, key_changed}
use Rattle.cspf_columns.proofs.MergedRows.{merged_over, merged_before, copied_below, put_below}
use Rattle.cspf_columns.proofs.EndColumn.{ends_joined, ends_between}
use Rattle.cspf_columns.proofs.merging.merge_one.Goals as goal

pub returns-clause-step : goal.returns-clause-step
returns-clause-step c =
    let step = rw c.deref.ensures.value at c.step-next.ensures in
    let found = rw c.deref-5.ensures.value at c.is_at.ensures in
    let key : link_key (c.key-key.result.0, c.in-Some.local) ≡ key_changed c.args.change.now = (λ i. (c.key-key.result.0, sym c.in-Some.is i)) ∙ c.key-key.ensures in
    let old = c.args.merged.now in
    let rows = c.args.columns.now.rows.items in
    let next = c.step-next.result in
    let long = length-between rows c.args.at next step.bound in
    let copied_len = rw c.deref-2.ensures.value at c.extend_within.ensures.len in
    rw c.from.ensures (elim c.is_at.result as (λ b. c.is_at.result ≡ b → IsMergedUpTo c.args.change.now rows c.args.at old c.put_behind.new.merged (next + from_bool b)) [
      | true ↦ λ on.
          let within = found.within on in
          let made = merged_over old.items rows c.args.at next c.args.change.now c.requires.merged.joined step.order within (λ d. ap link_key (found.found on d) ∙ key) in
          record {
            bound = omega (arith, within);
            changed = rw (c.put_behind.ensures.items, c.extend_within.ensures.items, c.deref-2.ensures.value) made.0;
            joined = rw (c.put_behind.ensures.items, c.extend_within.ensures.items, c.deref-2.ensures.value) made.1;
            longer = omega (arith, step.order, within, copied_len, c.put_behind.ensures.longer, long);
          }
      | false ↦ λ off.
          let copied = subst (λ q. AllWithin (λ m. change_key_cmp (link_key (key_of m)) q ≡ Less) rows c.args.at next) key step.below in
          let gap = subst (λ q. AllWithin (λ m. change_key_cmp (link_key (key_of m)) q ≡ Greater) rows next (length rows)) key (found.above off) in
          let made = merged_before old.items rows c.args.at next c.args.change.now c.requires.merged.joined step.order gap
          (copied_below old.items rows c.args.at next (key_changed c.args.change.now) step.order step.bound c.requires.below copied) in
          let all : next ≡ next + 0 = omega arith in
          subst (IsMergedUpTo c.args.change.now rows c.args.at old c.put_behind.new.merged) all (record {
            bound = step.bound;
            changed = rw (c.put_behind.ensures.items, c.extend_within.ensures.items, c.deref-2.ensures.value) made.0;
            joined = rw (c.put_behind.ensures.items, c.extend_within.ensures.items, c.deref-2.ensures.value) made.1;
            longer = omega (arith, step.order, step.bound, copied_len, c.put_behind.ensures.longer, long);
          })
    ] refl)

pub returns-clause-below : goal.returns-clause-below
returns-clause-below c k less =
    let step = rw c.deref.ensures.value at c.step-next.ensures in
    let key : link_key (c.key-key.result.0, c.in-Some.local) ≡ key_changed c.args.change.now = (λ i. (c.key-key.result.0, sym c.in-Some.is i)) ∙ c.key-key.ensures in
    let rows = c.args.columns.now.rows.items in
    let next = c.step-next.result in
    let copied = subst (λ q. AllWithin (λ m. change_key_cmp (link_key (key_of m)) q ≡ Less) rows c.args.at next) key step.below in
    let copied_items = rw c.deref-2.ensures.value at c.extend_within.ensures.items in
    let items : c.put_behind.new.merged.items ≡ (c.args.merged.now.items ++ between c.args.at next rows) ++ links_put (c.args.change.now ∷ []) = c.put_behind.ensures.items ∙ ap (λ xs. xs ++ links_put (c.args.change.now ∷ [])) copied_items in
    subst (λ (xs : List Link). EndsBelow xs k) (sym items)
    (put_below _ c.args.change.now k (copied_below c.args.merged.now.items rows c.args.at next (key_changed c.args.change.now) step.order step.bound c.requires.below copied) less)

pub returns-clause-ends : goal.returns-clause-ends
returns-clause-ends c =
    let put = rw c.deref-4.ensures.value at c.put_behind.ensures.ends in
    put
    (rw (c.extend_within.ensures.items, c.extend_within-2.ensures.items, c.deref-2.ensures.value, c.deref-3.ensures.value)
    (ends_joined c.args.merged.now.items _ c.args.columns.now.routers.items c.args.merged_ends.now.items _ c.requires.ends_merged (ends_between c.args.columns.now.rows.items c.args.columns.now.routers.items c.args.columns.now.ends.items c.args.at c.step-next.result c.requires.tied.column.ends)))
