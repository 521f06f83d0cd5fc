use Rattle.std.proofs.Common.{◌≤◌, ◌/◌, take}
use Rattle.std.specs.List.{All}
use Rattle.cspf_meet.specs.declared.limits.TheConstants.{NO_WAY}
use Rattle.cspf_meet.proofs.edge.least_of_keys.Given as goal

abbrev pub invariant-loop-key : goal.invariant-loop-key
invariant-loop-key l = record { least : All (λ key. l.least ≤ key.0 / 1024) (take l.key-index l.keys); small : l.least ≤ NO_WAY }
