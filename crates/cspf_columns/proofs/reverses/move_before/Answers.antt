use Rattle.cspf_columns.specs.Reverses.{index_before}
use Rattle.cspf_columns.proofs.RouterPlaces.{moved_one}
use Rattle.cspf_columns.proofs.reverses.move_before.Goals as goal

pub loop-reverse-preserved : goal.loop-reverse-preserved
loop-reverse-preserved c = rw c.before-in-loop-reverse.ensures (moved_one (index_before c.args.at) c.args.reverses.now c.loop-reverse.reverses c.loop-reverse.reverse-index c.loop-reverse-test.true c.loop-reverse.invariant)
