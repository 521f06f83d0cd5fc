use Rattle.cspf_book.specs.Kept.{HasSameSums}
use Rattle.cspf_book.proofs.counts.Counts.forget.Given as goal

abbrev pub invariant-loop-link : goal.invariant-loop-link
invariant-loop-link l = HasSameSums l.initial.self l.self
