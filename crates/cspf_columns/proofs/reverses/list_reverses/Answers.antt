use Rattle.std.proofs.Common.{rules, ◌≡◌, length, slice_index_or, sym, ap, subst, ◌∙◌, arith}
use Rattle.cspf_model.specs.declared.link.Link.{Link}
use Rattle.cspf_columns.specs.Rows.{IsSpanOf}
use Rattle.cspf_columns.proofs.ReverseColumn.{one_more}
use Rattle.cspf_columns.proofs.reverses.list_reverses.Goals as goal

pub bounds-spans-from : goal.bounds-spans-from
bounds-spans-from c = rw c.from.ensures (c.requires.spans c.loop-at.at c.index-rows-at.result c.loop-at-test.true).0

pub reverse_within-requires-clause-span : goal.reverse_within-requires-clause-span
reverse_within-requires-clause-span c =
    let rows = c.args.rows.now in
    let spans = c.args.spans.now in
    let span = c.index-spans-from.result in
    let there : span ≡ slice_index_or spans (slice_index_or c.args.ends.now c.loop-at.at 0) span = c.index-spans-from.is ∙ ap (λ n. slice_index_or spans n span) c.from.ensures in
    let is = (c.requires.spans c.loop-at.at c.index-rows-at.result c.loop-at-test.true).1 span in
    subst (λ s. IsSpanOf rows c.index-rows-at.result.to s) (sym there)
    (subst (λ (l : Link). IsSpanOf rows l.to (slice_index_or spans (slice_index_or c.args.ends.now c.loop-at.at 0) span)) (sym c.index-rows-at.is) is)

pub loop-at-preserved : goal.loop-at-preserved
loop-at-preserved c =
    let column = c.loop-at.reverses.items in
    let long = c.loop-at.invariant.len in
    let same : length column ≡ c.loop-at.at = omega (arith, c.loop-at.reverses.ok.0, long) in
    let l = c.index-rows-at.result in
    record {
      each = λ i d h. rw c.push_reserved.ensures.items (one_more c.args.rows.now column l c.reverse_within.result (rw same c.index-rows-at.is) (omega (arith, same, c.loop-at-test.true))
          (λ j e inside. c.loop-at.invariant.each j e (omega (arith, inside, c.loop-at.reverses.ok.0))) c.reverse_within.ensures i d (omega (arith, h, c.push_reserved.ensures.len, c.loop-at.reverses.ok.0)));
      len = search rules;
      capacity = search rules;
    }
