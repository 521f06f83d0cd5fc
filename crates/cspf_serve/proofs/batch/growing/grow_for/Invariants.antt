use Rattle.std.proofs.Common.{◌≡◌, vec_len}
use Rattle.cspf_serve.proofs.batch.growing.grow_for.Given as goal

-- the askers (which answer requests) are as before
abbrev pub invariant-loop-index : goal.invariant-loop-index
invariant-loop-index l = record {
  items : l.askers.items ≡ l.fn.askers.items;
  count : vec_len l.askers ≡ vec_len l.fn.askers;
}
