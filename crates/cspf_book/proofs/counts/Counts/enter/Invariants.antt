use Rattle.std.proofs.Common.{take}
use Rattle.cspf_book.specs.Kept.{HasKeys, KeepsKeys, HasSameSums}
use Rattle.cspf_book.proofs.counts.Counts.enter.Given as goal

abbrev pub invariant-loop-link : goal.invariant-loop-link
invariant-loop-link l = record {
  sums : HasSameSums l.initial.self l.self;
  kept : KeepsKeys l.initial.self l.self;
  keys : HasKeys l.self (take l.link-index l.links);
}
