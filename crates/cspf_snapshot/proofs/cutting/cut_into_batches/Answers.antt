use Rattle.std.proofs.Common.{◌≡◌, ◌+◌, min, List, ◌++◌, [], ◌∷◌, length, take, drop, sym, ap, subst, ◌∙◌, arith, length-append}
use Rattle.cspf_model.specs.Numbered.{NumberedChanges, AreNumberedFrom}
use Rattle.cspf_model.specs.Changes.{changes_of}
use Rattle.cspf_snapshot.specs.Snapshots.{AreFullButLast}
use Rattle.cspf_snapshot.proofs.FullBatches.{AreFull, few_so_far, all_next, full_next, whole_next, numbered_push}
use Rattle.cspf_snapshot.proofs.cutting.cut_into_batches.Goals as goal

pub overflow_add-number : goal.overflow_add-number
overflow_add-number c =
    let l = c.loop-rest in
    omega (arith, few_so_far c.args.changes.now l.batches.items l.rest.now l.invariant.all l.invariant.whole c.loop-rest-test.ensures, l.invariant.number, c.requires)

pub loop-rest-preserved : goal.loop-rest-preserved
loop-rest-preserved c =
    let l = c.loop-rest in
    let some = c.loop-rest-test.ensures in
    let b : NumberedChanges = record { number = l.number + 1; changes = c.in_ok-changes.changes.items } in
    let behind = c.split_at.result.1.now in
    let front : b.changes ≡ take (min (length l.rest.now) 4096) l.rest.now = c.in_ok-changes.ensures.items ∙ c.split_at.ensures.front ∙ ap (λ n. take n l.rest.now) c.min.ensures in
    let back : behind ≡ drop (min (length l.rest.now) 4096) l.rest.now = c.split_at.ensures.back ∙ ap (λ n. drop n l.rest.now) c.min.ensures in
    let pushed : c.push.new.self.items ≡ l.batches.items ++ b ∷ [] = c.in_ok-push.ensures.items in
    record {
      all = ap (λ (bs : List NumberedChanges). changes_of bs ++ behind) pushed
          ∙ all_next c.args.changes.now l.batches.items l.rest.now l.invariant.all l.invariant.whole some b behind front back;
      number = omega (arith, ap length pushed, length-append l.batches.items (b ∷ []), l.invariant.number);
      numbers = subst (AreNumberedFrom 1) (sym pushed)
          (numbered_push 1 l.batches.items b l.invariant.numbers (omega (arith, l.invariant.number)));
      full = subst AreFullButLast (sym pushed)
          (full_next c.args.changes.now l.batches.items l.rest.now l.invariant.all l.invariant.whole some b behind front back);
      whole = λ more. subst AreFull (sym pushed)
          (whole_next c.args.changes.now l.batches.items l.rest.now l.invariant.all l.invariant.whole some b behind front back more);
    }
