use Rattle.std.proofs.Common.{◌≡◌, sum_by, take}
use Rattle.cspf_pair.specs.Potentials.{by_size}
use Rattle.cspf_disjoint.proofs.weights.weight_along.Given as goal

abbrev pub invariant-loop-link : goal.invariant-loop-link
invariant-loop-link l = record { sum : l.weight ≡ sum_by by_size.of_link (take l.link-index l.way) }
