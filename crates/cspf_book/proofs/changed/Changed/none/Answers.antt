use Rattle.std.proofs.Common.{refl}
use Rattle.cspf_book.proofs.changed.Changed.none.Goals as goal

pub invariant_of-result : goal.invariant_of-result
invariant_of-result c = record { last_at = λ k. rw c.new.ensures.empty refl }
