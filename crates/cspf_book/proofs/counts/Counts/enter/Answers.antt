use Rattle.std.proofs.Common.{IsSome, subst}
use Rattle.std.specs.BTreeMap.{get}
use Rattle.cspf_book.specs.declared.path.Passed.{Passed}
use Rattle.cspf_model.specs.Database.{key_cmp}
use Rattle.cspf_book.specs.Placements.{key_passed}
use Rattle.cspf_book.proofs.KeptSums.{same_sums_on, keeps_keys_on, keys_more}
use Rattle.cspf_book.proofs.counts.Counts.enter.Goals as goal

pub loop-link-preserved : goal.loop-link-preserved
loop-link-preserved c = record {
  sums = same_sums_on _ _ _ c.loop-link.invariant.sums c.in_ok-enter_one.ensures.sums;
  kept = keeps_keys_on _ _ _ c.loop-link.invariant.kept c.in_ok-enter_one.ensures.kept;
  keys =
      keys_more c.loop-link.self c.enter_one.new.self c.args.links.now c.loop-link.link-index c.link-item.result c.loop-link-test.true c.loop-link.invariant.keys c.in_ok-enter_one.ensures.kept
      (subst (λ (l : Passed). IsSome (get key_cmp c.enter_one.new.self.sums (key_passed l))) c.link-item.is c.in_ok-enter_one.ensures.there);
}

pub returns-in_err-enter_one-clause-sums : goal.returns-in_err-enter_one-clause-sums
returns-in_err-enter_one-clause-sums c = same_sums_on _ _ _ c.loop-link.invariant.sums c.in_err-enter_one.ensures.sums

pub returns-in_err-enter_one-clause-kept : goal.returns-in_err-enter_one-clause-kept
returns-in_err-enter_one-clause-kept c = keeps_keys_on _ _ _ c.loop-link.invariant.kept c.in_err-enter_one.ensures.kept
