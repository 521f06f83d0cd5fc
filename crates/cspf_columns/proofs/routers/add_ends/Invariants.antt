use Rattle.std.proofs.Common.{◌≤◌, ◌+◌, ◌*◌, All, Contains, take, vec_len}
use Rattle.std.specs.Vec.{vec_capacity}
use Rattle.cspf_model.specs.Lemmas.CountedEnds.{HasListedEnds}
use Rattle.cspf_columns.specs.Rows.{AreRising}
use Rattle.cspf_columns.proofs.routers.add_ends.Given as goal

abbrev pub invariant-loop-change : goal.invariant-loop-change
invariant-loop-change l = record {
  kept : All (Contains l.routers.items) l.fn.routers.items;
  listed : All (HasListedEnds l.routers.items) (take l.change-index l.changes);
  rising : AreRising l.routers.items;
  longer : vec_len l.routers ≤ vec_len l.fn.routers + 2 * l.change-index;
  capacity : vec_capacity l.fn.routers ≤ vec_capacity l.routers;
}
