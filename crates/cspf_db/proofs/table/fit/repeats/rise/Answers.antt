use Rattle.std.proofs.Common.{◌≡◌, ◌-◌, get_or, sym, ◌∙◌, arith}
use Rattle.std.specs.declared.cmp.Ordering.TheVariants.{Less}
use Rattle.std.proofs.lemmas.List.{get_or_read}
use Rattle.std.proofs.lemmas.List.Sorted.{all_adjacent_more}
use Rattle.cspf_model.specs.Changes.{change_key_cmp}
use Rattle.cspf_columns.proofs.SortedEntries.{test_from_true, less_from}
use Rattle.cspf_model.proofs.Batches.RisingKeys.{IsBelow, distinct_from_rising}
use Rattle.cspf_db.proofs.table.fit.repeats.rise.Goals as goal

pub loop-at-preserved : goal.loop-at-preserved
loop-at-preserved c =
    let keys = c.args.keys.now in
    let at = c.loop-at.at in
    let less : change_key_cmp c.index-keys-at.result c.index-keys-at-in-loop-at.result ≡ Less = less_from _ (test_from_true _ (sym c.is_below.ensures ∙ c.if-not-is_below.false)) in
    all_adjacent_more keys IsBelow at (omega arith) c.loop-at.invariant (λ d.
    let low = get_or_read keys (at - 1) c.index-keys-at.result (omega arith) c.index-keys-at.is d in
    let high = get_or_read keys at c.index-keys-at-in-loop-at.result (omega arith) c.index-keys-at-in-loop-at.is d in
    let same : change_key_cmp c.index-keys-at.result c.index-keys-at-in-loop-at.result ≡ change_key_cmp (get_or keys (at - 1) d) (get_or keys at d) = λ t. change_key_cmp (low t) (high t) in
    sym same ∙ less)

pub returns : goal.returns
returns c on = distinct_from_rising c.args.keys.now (λ k d h. c.loop-at.invariant k d (omega arith))
