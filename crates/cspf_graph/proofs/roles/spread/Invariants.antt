use Rattle.std.proofs.Common.{◌≡◌, ℕ, ◌+◌, ◌<◌, ◌&&◌, false}
use Rattle.cspf_graph.specs.RoleSteps.{StayElsewhere, role_at}
use Rattle.cspf_graph.proofs.roles.spread.Given as goal

abbrev pub invariant-loop-place : goal.invariant-loop-place
invariant-loop-place l = record {
  here : (p : ℕ) → p < l.place → role_at l.roles (l.rows.first + p) ≡ record { enter = l.loose && (role_at l.fn.roles (l.rows.last + p)).enter; target = false };
  elsewhere : StayElsewhere l.rows l.fn.roles l.roles;
}
