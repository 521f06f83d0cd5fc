use Rattle.cspf_book.proofs.KeptSums.{same_sums_on}
use Rattle.cspf_book.proofs.counts.Counts.forget.Goals as goal

pub loop-link-preserved : goal.loop-link-preserved
loop-link-preserved c = same_sums_on _ _ _ c.loop-link.invariant c.forget_one.ensures
