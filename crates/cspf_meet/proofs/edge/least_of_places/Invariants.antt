use Rattle.std.proofs.Common.{◌≤◌, take}
use Rattle.std.specs.List.{All}
use Rattle.cspf_meet.specs.declared.limits.TheConstants.{NO_WAY}
use Rattle.cspf_meet.specs.Labels.{rank_at}
use Rattle.cspf_meet.proofs.edge.least_of_places.Given as goal

abbrev pub invariant-loop-place : goal.invariant-loop-place
invariant-loop-place l = record { least : All (λ place. l.least ≤ rank_at l.ranks place) (take l.place-index l.places); small : l.least ≤ NO_WAY }
