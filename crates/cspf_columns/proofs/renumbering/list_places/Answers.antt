use Rattle.std.proofs.Common.{Contains, subst, sym}
use Rattle.cspf_columns.proofs.renumbering.list_places.Goals as goal

pub index_near-place-requires-clause-among : goal.index_near-place-requires-clause-among
index_near-place-requires-clause-among c =
    subst (Contains c.args.others.now) (sym c.router-item.is) (c.requires.among c.loop-router.router-index c.router-item.result c.loop-router-test.true)
