use Rattle.std.proofs.Common.{◌≡◌}
use Rattle.cspf_publish.proofs.replicas.count_shown.Given as goal

-- the loop has changed nothing
abbrev pub invariant-loop : goal.invariant-loop
invariant-loop g l =
    (goal.iterator-loop g).can_next l.iterator' × (goal.iterator-loop g).is_finite l.iterator'
    × (l.right ≡ l.fn.right)
