use Rattle.std.proofs.Common.{◌≤◌, length, ap, sym, ◌∙◌, arith}
use Rattle.cspf_columns.specs.Index.{router_list}
use Rattle.cspf_model.specs.Lemmas.LinkRows.{database_of}
use Rattle.cspf_db.proofs.Tables.OwnerPlaces.{owners_of_all, one_more, passed_by}
use Rattle.cspf_columns.proofs.RouterLists.{length-router_list}
use Rattle.cspf_db.proofs.table.Table.list_owners.Goals.{then-owns_within, else-owns_within}
use Rattle.cspf_db.proofs.table.Table.list_owners.Goals as goal

pub overflow_cast-at : goal.overflow_cast-at
overflow_cast-at c =
    let few : length c.self.inside.columns.routers.items ≤ 1024 = omega (arith, ap length c.self.invariant.columns.parts.all, length-router_list (database_of c.self.inside.columns.rows.items), c.self.invariant.columns.parts.few) in
    omega (arith, few)

pub push_reserved-requires : goal.push_reserved-requires
push_reserved-requires c =
    let few : length c.self.inside.columns.routers.items ≤ 1024 = omega (arith, ap length c.self.invariant.columns.parts.all, length-router_list (database_of c.self.inside.columns.rows.items), c.self.invariant.columns.parts.few) in
    omega (arith, few, c.requires, c.loop-at.invariant.few, c.loop-at.invariant.room)

pub loop-at-preserved : goal.loop-at-preserved
loop-at-preserved c =
    let before = c.loop-at.invariant in
    elim c.if-owns_within.branch [
      | then-owns_within w ↦
          let out = w.push_reserved.ensures in
          rw w.owners-is (record {
            owners = rw out.items (one_more c.args.self.now c.args.prefix c.loop-at.at c.loop-at.owners.items before.owners (c.owns_within.ensures.0 w.if-owns_within.true));
            few = omega (arith, out.len, before.few);
            room = omega (arith, out.capacity, before.room);
          })
      | else-owns_within w ↦
          rw w.owners-is (record {
            owners = passed_by c.args.self.now c.args.prefix c.loop-at.at c.loop-at.owners.items before.owners (λ is. let on = c.owns_within.ensures.1 is in cc);
            few = omega (arith, before.few);
            room = before.room;
          })
    ]

pub returns-clause-owners : goal.returns-clause-owners
returns-clause-owners c =
    owners_of_all c.args.self.now c.args.prefix c.loop-at.at c.loop-at.owners.items
    (ap length (sym (c.self.invariant.listed ∙ ap router_list c.self.view_is)) ∙ omega arith) c.loop-at.invariant.owners
