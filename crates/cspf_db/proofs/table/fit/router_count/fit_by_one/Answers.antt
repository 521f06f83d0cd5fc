use Rattle.std.proofs.Common.{length, ap, ◌∙◌, arith}
use Rattle.cspf_model.specs.Lemmas.LinkRows.{database_of}
use Rattle.cspf_columns.proofs.RowOrder.{own_keys}
use Rattle.cspf_columns.proofs.RouterLists.{ends_listed, length-router_list, rising-router_list}
use Rattle.cspf_model.proofs.Databases.EndCounts.{router_count-brought, router_count-gone}
use Rattle.cspf_db.proofs.table.fit.router_count.fit_by_one.Goals as goal

pub count_brought-requires-clause-rising : goal.count_brought-requires-clause-rising
count_brought-requires-clause-rising c = rw (c.deref.ensures.value, c.requires.columns.parts.all) (rising-router_list _)

pub returns-then-many-le-MOST_ROUTERS : goal.returns-then-many-le-MOST_ROUTERS
returns-then-many-le-MOST_ROUTERS c _ =
    let brought = router_count-brought c.args.columns.now.rows.items c.args.changes.now (own_keys _ c.requires.columns.parts.by_key) c.requires.once c.args.columns.now.routers.items c.count_brought.result (ends_listed c.args.columns.now.rows.items c.args.columns.now.routers.items c.requires.columns.parts.by_key c.requires.columns.parts.all) (rw c.deref.ensures.value at c.count_brought.ensures.most) in
    let listed = ap length c.requires.columns.parts.all ∙ length-router_list (database_of c.args.columns.now.rows.items) in
    omega (arith, brought, listed, c.if-many-le-MOST_ROUTERS.true)

pub returns-then-many : goal.returns-then-many
returns-then-many c on =
    let left = router_count-gone c.args.columns.now.rows.items c.args.changes.now (own_keys _ c.requires.columns.parts.by_key) c.requires.once c.args.columns.now.routers.items c.count_brought.result (ends_listed c.args.columns.now.rows.items c.args.columns.now.routers.items c.requires.columns.parts.by_key c.requires.columns.parts.all) (rw c.deref.ensures.value at c.count_brought.ensures.most) (c.any_goes.ensures on) in
    let listed = ap length c.requires.columns.parts.all ∙ length-router_list (database_of c.args.columns.now.rows.items) in
    omega (arith, left, listed, c.if-many.true)
