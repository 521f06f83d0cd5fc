use Rattle.std.proofs.Common.{◌≡◌, ◌+◌, ◌*◌, ◌∷◌, [], ◌<◌, ℕ, length, slice_index_or}
use Rattle.std.specs.Prelude.{Vec}
use Rattle.std.specs.declared.alloc.Global.{Global}
use Rattle.cspf_graph.specs.RoleSteps.{AreRolesUpTo}
use Rattle.cspf_graph.specs.Roles.{AreTargetsOf}
use Rattle.cspf_graph.proofs.roles.find_roles.Given as goal

abbrev pub invariant-loop-leg_index : goal.invariant-loop-leg_index
invariant-loop-leg_index l = record {
  many : length l.states.items ≡ (length l.request.hops + 1) * 1024;
  roles : AreRolesUpTo l.table l.request l.leg_index l.states.items;
  count : length l.targets.items ≡ l.leg_index;
  targets : (i : ℕ) (e : Vec ℕ Global) → i < l.leg_index → AreTargetsOf l.table l.request (i + 1) (slice_index_or l.targets.items i e).items;
  head : l.head ≡ l.from ∷ [];
}
