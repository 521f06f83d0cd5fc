use Rattle.std.proofs.Common.{◌<◌, length, length-take-le, sym, ◌∙◌, arith}
use Rattle.std.proofs.lemmas.List.{take_more_set, length-set}
use Rattle.cspf_model.proofs.Batches.RouterSets.{len-from_distinct, insert-there, contains-found, distinct-push, set-push, len-push}
use Rattle.cspf_db.proofs.table.fit.router_set.Routers.add.Goals as goal

pub returns-then-contains-clause-added : goal.returns-then-contains-clause-added
returns-then-contains-clause-added c =
    rw (← c.self.view_is)
    (insert-there _ c.args.router (contains-found _ c.args.router ∙ sym c.contains.ensures.value ∙ c.if-contains.true))

pub returns-then-has-clause-few : goal.returns-then-has-clause-few
returns-then-has-clause-few c =
    rw (← c.self.view_is, len-from_distinct _ c.self.invariant.once)
    (omega (arith, c.self.invariant.most, c.self.invariant.room, length-take-le c.self.inside.count c.self.inside.found))

pub returns-then-contains-clause-few : goal.returns-then-contains-clause-few
returns-then-contains-clause-few c =
    rw (← c.self.view_is, len-from_distinct _ c.self.invariant.once)
    (omega (arith, c.self.invariant.most, c.self.invariant.room, length-take-le c.self.inside.count c.self.inside.found))

pub returns-then-self-eq-MOST_ROUTERS-clause-full : goal.returns-then-self-eq-MOST_ROUTERS-clause-full
returns-then-self-eq-MOST_ROUTERS-clause-full c =
    rw (← c.self.view_is, len-push _ c.args.router (sym c.contains.ensures.value ∙ c.if-contains.false) c.self.invariant.once)
    (omega (arith, c.self.invariant.room, length-take-le c.self.inside.count c.self.inside.found))

pub invariant_of-self : goal.invariant_of-self
invariant_of-self c =
    let within : c.self.inside.count < length c.self.inside.found = omega (arith, c.self.invariant.room, c.self.invariant.most) in
    record {
      room =
          length-set c.self.inside.found c.self.inside.count c.args.router ∙ c.self.invariant.room;
      slots = c.note.ensures;
      most = omega (arith, c.self.invariant.most);
      once =
          rw (take_more_set c.self.inside.found c.self.inside.count c.args.router within) (distinct-push _ c.args.router (sym c.contains.ensures.value ∙ c.if-contains.false) c.self.invariant.once);
    }

pub returns-clause-added : goal.returns-clause-added
returns-clause-added c =
    let within : c.self.inside.count < length c.self.inside.found = omega (arith, c.self.invariant.room, c.self.invariant.most) in
    rw (← c.self.view_is, take_more_set c.self.inside.found c.self.inside.count c.args.router within, set-push _ c.args.router (sym c.contains.ensures.value ∙ c.if-contains.false))

pub returns-clause-few : goal.returns-clause-few
returns-clause-few c =
    let within : c.self.inside.count < length c.self.inside.found = omega (arith, c.self.invariant.room, c.self.invariant.most) in
    rw (take_more_set c.self.inside.found c.self.inside.count c.args.router within, set-push _ c.args.router (sym c.contains.ensures.value ∙ c.if-contains.false), len-push _ c.args.router (sym c.contains.ensures.value ∙ c.if-contains.false) c.self.invariant.once)
    (omega (arith, c.self.invariant.most, c.self.invariant.room, length-take-le c.self.inside.count c.self.inside.found))
