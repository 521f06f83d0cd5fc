use Rattle.std.proofs.Common.{rules, arith}
use Rattle.std.specs.List.{IsDistinct}
use Rattle.cspf_db.proofs.table.fit.router_set.Routers.kept_in.Goals as goal

pub invariant_of-result : goal.invariant_of-result
unfolding IsDistinct
invariant_of-result c = record { room = search rules; slots = search rules; most = omega arith; once = tt }
