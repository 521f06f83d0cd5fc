use Rattle.std.proofs.Common.{◌≡◌, map, take}
use Rattle.cspf_model.proofs.route.list_ends.Given as goal

abbrev pub invariant-loop-at : goal.invariant-loop-at
invariant-loop-at l = take l.at l.ends ≡ map (λ x. x.to) (take l.at l.links)
