use Rattle.std.proofs.Common.{◌+◌}
use Rattle.std.proofs.lemmas.List.{take_rest}
use Rattle.cspf_pair.specs.Pairs.{AreOfTwoCircuits}
use Rattle.cspf_disjoint.proofs.FirstPairs.{more_pairs}
use Rattle.cspf_disjoint.proofs.sharing.have_own_circuits.Goals as goal

pub loop-at-preserved : goal.loop-at-preserved
loop-at-preserved c =
    let later = rw (take_rest c.args.links.now (c.loop-at.at + 1)) at (c.is_of_other_circuit.ensures.0 c.if-not-is_of_other_circuit.false) in
    record { pairs = more_pairs AreOfTwoCircuits c.args.links.now c.loop-at.at c.index-links-at.result c.loop-at-test.true c.index-links-at.is later c.loop-at.invariant.pairs }
