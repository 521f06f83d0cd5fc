use Rattle.std.proofs.Common.{take}
use Rattle.std.specs.List.{AllByRecursion}
use Rattle.cspf_book_run.specs.RouteText.{IsPassedInRange}
use Rattle.cspf_book_run.proofs.ranges.path_in_range.Given as goal

-- the addresses of the links before this index are below 2^32
abbrev pub invariant-loop-link : goal.invariant-loop-link
invariant-loop-link l = AllByRecursion IsPassedInRange (take l.link-index l.links)
