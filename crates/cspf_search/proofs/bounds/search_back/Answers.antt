use Rattle.std.proofs.Common.{◌≡◌, ◌+◌, suc, length, subst, slice_index, arith}
use Rattle.std.proofs.lemmas.Result.{on_ok_weaker}
use Rattle.cspf_db.specs.Index.{router_list}
use Rattle.cspf_model.specs.Targets.{IsTarget}
use Rattle.cspf_search.specs.Bounds.{bound_at}
use Rattle.cspf_search.proofs.Cuts.{last_target}
use Rattle.cspf_graph.proofs.RouterIndexes.{one_place}
use Rattle.cspf_search.proofs.bounds.search_back.Goals as goal

-- The only target of the last leg is the tail-end, and the tail-end's bound is 0.
pub returns-then-leg_index-len-clause-targets : goal.returns-then-leg_index-len-clause-targets
returns-then-leg_index-len-clause-targets c =
    on_ok_weaker c.grow.result
    (λ lower p h turns.
    let d = c.args.query.table.now in
    let q = c.args.query.request.now in
    let r = slice_index (router_list d) p in
    let leg : c.args.leg_index + 1 ≡ suc (length q.hops) = omega (arith, c.if-leg_index-len.true, c.len.ensures.value) in
    let last : r ≡ q.to = subst (λ (T : Type 0). T) (last_target d q r) (subst (λ k. IsTarget d q k r) leg turns.target) in
    let place : p ≡ c.args.to = one_place d c.requires.query.listed q.to p c.args.to (record { within = h; is = last }) c.requires.to in
    let none : bound_at c.begin_last.new.ring.near.items p ≡ 0 = rw place c.in_ok-begin_last.ensures.target in
    omega (arith, lower p, none))
    c.grow.ensures.lower

pub returns-clause-targets : goal.returns-clause-targets
returns-clause-targets c =
    on_ok_weaker c.grow-2.result
    (λ lower p h turns. omega (arith, lower p, c.in_ok-top.ensures.targets p h turns))
    c.grow-2.ensures.lower
