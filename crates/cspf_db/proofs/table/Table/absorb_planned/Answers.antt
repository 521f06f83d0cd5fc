use Rattle.std.proofs.Common.{◌≤◌, sym, subst, ◌∙◌, arith}
use Rattle.cspf_model.proofs.Databases.MarkedLinks.{links_counted, routers_counted, marked_after}
use Rattle.cspf_columns.proofs.AlikeRows.{unmarked}
use Rattle.cspf_db.proofs.Tables.MarkChanges.{still_marks}
use Rattle.cspf_db.proofs.Tables.Plans.{rows_alike}
use Rattle.cspf_columns.proofs.RouterLists.{length-router_list, rising-router_list, routers_marked}
use Rattle.cspf_db.proofs.table.Table.absorb_planned.Goals as goal

pub write_over-requires-clause-alike : goal.write_over-requires-clause-alike
write_over-requires-clause-alike c =
    let is = c.self.invariant in
    rw c.deref.ensures.value
    (rows_alike c.self.inside.columns.rows.items c.self.inside.marks.items is.columns.parts.by_key c.self.inside.columns.routers.items is.columns.parts.all _ c.args.plan (rw (← c.self.view_is, ← c.batch.view_is) at c.requires) c.if-plan.true)

pub invariant_of-self : goal.invariant_of-self
invariant_of-self c =
    let is = c.self.invariant in
    let over = c.write_over.ensures in
    record {
      columns = over.columns;
      marks = is.marks;
      listed = over.columns.parts.all ∙ routers_marked _ _;
      transits = rw over.routers is.transits;
      room_for_transits = is.room_for_transits;
    }

pub returns-then-plan : goal.returns-then-plan
returns-then-plan c =
    let rows = c.self.inside.columns.rows.items in
    let marks = c.self.inside.marks.items in
    let is = c.self.invariant in
    let alike = rows_alike rows marks is.columns.parts.by_key c.self.inside.columns.routers.items is.columns.parts.all _ c.args.plan (rw (← c.self.view_is, ← c.batch.view_is) at c.requires) c.if-plan.true in
    rw (← c.self.view_is, ← c.batch.view_is)
    (marked_after rows _ marks marks c.batch.inside.changes.items (rw c.deref.ensures.value at c.write_over.ensures.changed) (unmarked rows c.batch.inside.changes.items _ alike))

pub change_columns-requires-clause-links : goal.change_columns-requires-clause-links
change_columns-requires-clause-links c =
    let fits = (rw (← c.self.view_is, ← c.batch.view_is) at c.requires.fits) in
    rw c.deref-2.ensures.value (subst (λ n. n ≤ 16384) (sym (links_counted c.self.inside.columns.rows.items c.self.inside.marks.items c.batch.inside.changes.items)) fits.links)

pub change_columns-requires-clause-few : goal.change_columns-requires-clause-few
change_columns-requires-clause-few c =
    let fits = (rw (← c.self.view_is, ← c.batch.view_is) at c.requires.fits) in
    rw c.deref-2.ensures.value (subst (λ n. n ≤ 1024) (sym (routers_counted c.self.inside.columns.rows.items c.self.inside.marks.items c.batch.inside.changes.items)) fits.routers)

pub list_transits-requires-clause-routers : goal.list_transits-requires-clause-routers
list_transits-requires-clause-routers c = rw (c.deref-4.ensures.value, c.change_columns.ensures.columns.parts.all) (rising-router_list _)

pub list_transits-requires-clause-few : goal.list_transits-requires-clause-few
list_transits-requires-clause-few c =
    let parts = c.change_columns.ensures.columns.parts in
    rw (c.deref-4.ensures.value, parts.all, length-router_list) parts.few

pub invariant_of-self-2 : goal.invariant_of-self-2
invariant_of-self-2 c =
    let fits = (rw (← c.self.view_is, ← c.batch.view_is) at c.requires.fits) in
    record {
      columns = c.change_columns.ensures.columns;
      marks = still_marks c.self.inside.columns.rows.items c.self.inside.marks.items _ c.batch.inside.changes.items fits.marks (rw c.deref-3.ensures.value at c.change_marks.ensures.marked) c.change_marks.ensures.rising
          (omega (arith, c.self.invariant.marks.room, c.change_marks.ensures.capacity));
      listed = c.change_columns.ensures.columns.parts.all ∙ routers_marked _ _;
      transits = rw (← c.deref-4.ensures.value, ← c.deref-5.ensures.value) c.list_transits.ensures.each;
      room_for_transits = c.list_transits.ensures.room;
    }

pub returns : goal.returns
returns c =
    rw (← c.self.view_is, ← c.batch.view_is)
    (marked_after c.self.inside.columns.rows.items _ c.self.inside.marks.items _ c.batch.inside.changes.items (rw c.deref-2.ensures.value at c.change_columns.ensures.changed) (rw c.deref-3.ensures.value at c.change_marks.ensures.marked))
