use Rattle.cspf_pair.specs.Pairs.{AreDifferent}
use Rattle.cspf_disjoint.proofs.FirstPairs.{FirstPairs}
use Rattle.cspf_disjoint.proofs.sharing.are_different.Given as goal

abbrev pub invariant-loop-at : goal.invariant-loop-at
invariant-loop-at l = record { pairs : FirstPairs AreDifferent l.routers l.at }
