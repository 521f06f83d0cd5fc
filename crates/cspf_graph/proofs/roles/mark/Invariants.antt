use Rattle.std.proofs.Common.{take}
use Rattle.cspf_graph.specs.RoleSteps.{AreRolesMarked}
use Rattle.cspf_graph.proofs.roles.mark.Given as goal

abbrev pub invariant-loop-place : goal.invariant-loop-place
invariant-loop-place l = AreRolesMarked l.rows (take l.place-index l.places) l.own l.from l.fn.roles l.roles
