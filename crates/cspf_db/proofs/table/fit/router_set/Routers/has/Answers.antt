use Rattle.std.proofs.Common.{slice_index, ◌-◌, ◌∙◌, arith}
use Rattle.cspf_model.proofs.Batches.RouterSets.{insert-there, contains-found, found_at}
use Rattle.cspf_db.proofs.table.fit.router_set.Routers.has.Goals as goal

pub returns-then-self-place : goal.returns-then-self-place
returns-then-self-place c on =
    let place = slice_index c.self.inside.places c.slot.result in
    let found = found_at c.self.inside.found c.self.inside.count (place - 1) c.args.router (omega (arith, c.if-place-self.true, c.if-place-eq0.false)) (omega (arith, c.self.invariant.most, c.self.invariant.room)) c.if-self-place.true in
    rw (← c.self.view_is) (insert-there _ c.args.router (contains-found _ c.args.router ∙ found))
