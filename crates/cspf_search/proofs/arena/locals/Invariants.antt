use Rattle.std.proofs.Common.{◌≡◌}
use Rattle.std.specs.Ordering.{ordering_then}
use Rattle.cspf_search.specs.Settled.{locals_cmp}
use Rattle.cspf_search.specs.Arena.{walk_of}
use Rattle.cspf_search.proofs.Backs.{IsBehind}
use Rattle.cspf_search.proofs.arena.locals.Given as goal

abbrev pub invariant-loop-step : goal.invariant-loop-step
invariant-loop-step l = record {
  first : IsBehind l.nodes l.x l._step l.count;
  second : IsBehind l.nodes l.y l._step l.count;
  same : ordering_then (locals_cmp (walk_of l.nodes l.x) (walk_of l.nodes l.y)) l.found ≡ locals_cmp (walk_of l.nodes l.a) (walk_of l.nodes l.b);
}
