use Rattle.std.proofs.Common.{◌≡◌, take, count_by, sym, ap, subst, ◌∙◌, arith}
use Rattle.std.proofs.lemmas.List.{take_all}
use Rattle.cspf_model.specs.Changes.{IsPresent}
use Rattle.cspf_columns.specs.AlikeChanges.{IsAlike}
use Rattle.cspf_model.specs.Lemmas.CountedEnds.{BringsAtMost, HasListedEnds}
use Rattle.cspf_model.specs.Lemmas.LinkRows.{database_of}
use Rattle.cspf_model.specs.Lemmas.RowsLeft.{adds_link}
use Rattle.cspf_model.proofs.Batches.LeastReasons.{once_from_new}
use Rattle.cspf_db.proofs.Tables.LinkCounts.{within_more, count_more}
use Rattle.cspf_db.proofs.Tables.GoneRouters.{brings_once}
use Rattle.cspf_db.proofs.Tables.SeenRows.{seen_more}
use Rattle.cspf_db.proofs.table.fit.tally.tally_each.Goals as goal
use Rattle.cspf_db.proofs.table.fit.tally.tally_each.Goals.{then-alike, else-alike, then-see, else-see}

pub loop-at-preserved : goal.loop-at-preserved
loop-at-preserved c =
    let d = database_of c.args.columns.now.rows.items in
    let changes = c.args.changes.now in
    let at = c.loop-at.at in
    let change = c.index-changes-at.result in
    let one = c.in-Some.ensures in
    let before = c.loop-at.invariant in
    record {
      present = within_more (IsPresent d) changes at change c.loop-at-test.true c.index-changes-at.is one.present before.present;
      added = count_more (adds_link d) changes at change c.loop-at.added c.in-Some.one.added c.loop-at-test.true c.index-changes-at.is before.added one.added;
      few_added = omega (arith, before.few_added, one.one);
      few = omega (arith, before.few, one.few);
      most = brings_once c.args.columns.now.routers.items changes at change c.loop-at.brought c.in-Some.one.brought c.loop-at-test.true c.index-changes-at.is before.most (λ s inside _. one.most s inside);
      alike = elim c.if-alike.branch [
        | then-alike w ↦ λ on. within_more (IsAlike c.args.columns.now.rows.items) changes at change c.loop-at-test.true c.index-changes-at.is (one.alike (sym w.alike-is ∙ on)) (before.alike w.if-alike.true)
        | else-alike w ↦ λ on. absurd (cc)
      ];
      apart = elim c.if-see.branch [
        | then-see w ↦ λ on. seen_more c.args.columns.now.rows.items c.requires.columns.parts.by_key changes at change c.loop-at-test.true c.index-changes-at.is c.row_of-row.result (rw c.deref.ensures.value at c.row_of-row.ensures) c.loop-at.seen c.see.new.seen (c.see.ensures w.if-see.true) (before.apart (sym w.apart-is ∙ on))
        | else-see w ↦ λ on. absurd (cc)
      ];
      listed = λ none. within_more (HasListedEnds c.args.columns.now.routers.items) changes at change c.loop-at-test.true c.index-changes-at.is (one.listed (omega (arith, none))) (before.listed (omega (arith, none)));
    }

pub returns-clause-tally : goal.returns-clause-tally
returns-clause-tally c =
    let columns = c.args.columns.now in
    let changes = c.args.changes.now in
    let is = c.loop-at.invariant in
    let all : take c.loop-at.at changes ≡ changes = take_all c.loop-at.at changes (omega arith) in
    record {
      present = λ i d h. is.present i d (omega arith) (omega (arith, h));
      added = is.added ∙ ap (count_by (adds_link (database_of columns.rows.items))) all;
      few = omega (arith, is.few);
      most = subst (λ cs. BringsAtMost columns.routers.items cs c.loop-at.brought) all is.most;
      listed = λ none i d h. is.listed none i d (omega arith) (omega (arith, h));
      alike = λ on i d h. is.alike on i d (omega arith) (omega (arith, h));
      apart = λ on. once_from_new changes (λ k h. (is.apart on).new k (omega (arith, h)));
    }
