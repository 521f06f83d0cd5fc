use Rattle.cspf_pair.specs.Pairs.{AreOfTwoCircuits}
use Rattle.cspf_disjoint.proofs.FirstPairs.{FirstPairs}
use Rattle.cspf_disjoint.proofs.sharing.have_own_circuits.Given as goal

abbrev pub invariant-loop-at : goal.invariant-loop-at
invariant-loop-at l = record { pairs : FirstPairs AreOfTwoCircuits l.links l.at }
