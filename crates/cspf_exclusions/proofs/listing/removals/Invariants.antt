use Rattle.std.proofs.Common.{take}
use Rattle.cspf_exclusions.specs.Exclusions.{IsExcluded}
use Rattle.cspf_exclusions.specs.Removals.{IsRemoval, removal_of}
use Rattle.cspf_exclusions.proofs.ListedItems.{AreListed}
use Rattle.cspf_exclusions.proofs.listing.removals.Given as goal

abbrev pub invariant-loop-link : goal.invariant-loop-link
invariant-loop-link l =
    AreListed (IsExcluded l.table l.parts) (IsRemoval l.table l.parts) removal_of (take l.link-index l.links) l.changes.items
