use Rattle.std.proofs.Common.{◌↔◌, nat_eq, drop}
use Rattle.std.specs.List.{IsDistinct}
use Rattle.cspf_model.proofs.Routes.Twice.{ends}
use Rattle.cspf_model.proofs.route.any_pair_meets.Given as goal

abbrev pub invariant-loop-i : goal.invariant-loop-i
invariant-loop-i l = IsDistinct nat_eq (ends (drop l.i l.links)) ↔ IsDistinct nat_eq (ends l.links)
