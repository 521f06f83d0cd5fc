use Rattle.std.proofs.Common.{◌+◌}
use Rattle.std.proofs.lemmas.List.{take_rest}
use Rattle.cspf_pair.specs.Pairs.{AreDifferent}
use Rattle.cspf_disjoint.proofs.FirstPairs.{more_pairs}
use Rattle.cspf_disjoint.proofs.sharing.are_different.Goals as goal

pub loop-at-preserved : goal.loop-at-preserved
loop-at-preserved c =
    let later = rw (take_rest c.args.routers.now (c.loop-at.at + 1)) at (c.is_other_router.ensures.0 c.if-not-is_other_router.false) in
    record { pairs = more_pairs AreDifferent c.args.routers.now c.loop-at.at c.index-routers-at.result c.loop-at-test.true c.index-routers-at.is later c.loop-at.invariant.pairs }
