use Rattle.std.proofs.Common.{◌≡◌, ◌*◌, ◌≤◌, All, vec_len, vec_capacity, sum_by}
use Rattle.cspf_publish.specs.AskerStates.{AskerState, known_of}
use Rattle.cspf_publish.proofs.replicas.Replicas.askers.Given as goal

-- the loop has made as many askers (which answer requests) as it counted, each with its share of
-- the trees of lower bounds, and has changed nothing else
abbrev pub invariant-loop : goal.invariant-loop
invariant-loop g l = record {
  same : l.self ≡ l.fn.self;
  count : vec_len l.all ≡ l.counter;
  room : l.count ≤ vec_capacity l.all;
  all : All (λ (a : AskerState). known_of a ≡ l.fn.self) l.all.items;
  trees : sum_by (λ (a : AskerState). a.most_trees) l.all.items ≡ l.counter * l.each;
}
