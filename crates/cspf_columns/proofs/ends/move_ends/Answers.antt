use Rattle.std.proofs.Common.{slice_index}
use Rattle.cspf_columns.proofs.RouterPlaces.{moved_one}
use Rattle.cspf_columns.proofs.ends.move_ends.Goals as goal

pub loop-end-preserved : goal.loop-end-preserved
loop-end-preserved c =
    moved_one (λ e. slice_index c.args.places.now e) c.args.ends.now.items c.loop-end.end-items c.loop-end.end-index (rw (← c.deref_mut-end-items.ensures.value) c.loop-end-test.true) c.loop-end.invariant
