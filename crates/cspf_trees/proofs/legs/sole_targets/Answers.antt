use Rattle.std.proofs.Common.{◌≡◌, true, Some, [], ◌∷◌, ◌++◌, length, slice_get, ap, arith, ◌∙◌}
use Rattle.std.proofs.lemmas.List.{length_push}
use Rattle.cspf_trees.proofs.SoleTargets.{hop_at, hop_target, tail_target, targets_push}
use Rattle.cspf_trees.proofs.legs.sole_targets.Goals as goal

pub loop-hop-preserved : goal.loop-hop-preserved
loop-hop-preserved c =
    let d = c.args.table.now in
    let q = c.args.request.now in
    let before = c.loop-hop.targets.items in
    let more : c.push.new.self.items ≡ before ++ (c.in-Some.router ∷ []) = c.in_ok-push.ensures.items in
    let hop : slice_get q.hops (length before) ≡ Some c.hop-item.result =
    hop_at q.hops c.as_slice-hop-items.result.now c.loop-hop.hop-index (length before) c.hop-item.result c.as_slice-hop-items.ensures c.loop-hop.invariant.number c.loop-hop-test.true c.hop-item.is in
    let loose : c.has_loose_hops.result ≡ true = c.if-not-has_loose_hops.false in
    record {
      trees = c.in_ok-router.ensures.trees;
      most = c.in_ok-router.ensures.most ∙ c.loop-hop.invariant.most;
      number = omega (arith, ap length more, length_push before c.in-Some.router, c.loop-hop.invariant.number);
      each = rw more
          (targets_push d q before c.in-Some.router c.loop-hop.invariant.each
          (hop_target d q (length before) c.hop-item.result c.in-Some.router hop (c.has_loose_hops.ensures loose (length before)) (rw c.in-Some.is at c.in_ok-router.ensures.sole)));
    }

pub returns-clause-targets : goal.returns-clause-targets
returns-clause-targets c =
    let d = c.args.table.now in
    let q = c.args.request.now in
    let before = c.loop-hop.targets.items in
    let more : c.push-2.new.self.items ≡ before ++ (q.to ∷ []) = c.in_ok-push-2.ensures.items in
    let all : length before ≡ length q.hops = omega (arith, c.loop-hop.invariant.number, c.loop-hop-test.false, c.loop-hop.auto.hop-index-end, ap length c.as_slice-hop-items.ensures) in
    record {
      number = omega (arith, ap length more, length_push before q.to, all);
      each = rw more (targets_push d q before q.to c.loop-hop.invariant.each (tail_target d q (length before) all));
    }
