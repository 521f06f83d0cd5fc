use Rattle.std.proofs.Common.{take}
use Rattle.cspf_book.specs.Kept.{KeepsKeys, HasMoreAlong}
use Rattle.cspf_book.proofs.counts.Counts.take.Given as goal

abbrev pub invariant-loop-i : goal.invariant-loop-i
invariant-loop-i l = record {
  sums : HasMoreAlong l.self l.initial.self (take l.i l.links) l.fn.placement.hold l.bandwidth;
  kept : KeepsKeys l.initial.self l.self;
}
