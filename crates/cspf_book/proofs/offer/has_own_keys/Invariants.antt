use Rattle.std.proofs.Common.{◌↔◌, drop}
use Rattle.cspf_book.specs.Placements.{ArePassedOnce}
use Rattle.cspf_book.proofs.offer.has_own_keys.Given as goal

abbrev pub invariant-loop-i : goal.invariant-loop-i
invariant-loop-i l = ArePassedOnce (drop l.i l.links) ↔ ArePassedOnce l.links
