use Rattle.std.proofs.Common.{take}
use Rattle.std.specs.List.{All}
use Rattle.cspf_exclusions.specs.Exclusions.{NamesRouter}
use Rattle.cspf_exclusions.proofs.listing.is_excluded_router.Given as goal

abbrev pub invariant-loop-part : goal.invariant-loop-part
invariant-loop-part l = All (λ part. ¬ NamesRouter l.table part l.router) (take l.part-index l.parts)
