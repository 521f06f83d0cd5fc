use Rattle.std.proofs.Common.{rules}
use Rattle.cspf_model.proofs.Batches.LeastReasons.{least_repeat, least_absent}
use Rattle.cspf_model.proofs.Databases.MarkedLinks.{links_counted, routers_counted, marks_counted}
use Rattle.cspf_db.proofs.Tables.SeenRows.{told_apart}
use Rattle.cspf_db.proofs.table.fit.fits.Goals as goal

pub returns-in-Some-clause-err : goal.returns-in-Some-clause-err
returns-in-Some-clause-err c =
    let first = c.in-Some.ensures in
    rw (← c.batch.view_is, ← c.as_slice-changes.ensures.value)
    (c.if-changes-gt-MOST_CHANGES.false, least_repeat _ c.in-Some.at first.bound first.some first.before)

pub returns-in-Err-clause-err : goal.returns-in-Err-clause-err
returns-in-Err-clause-err c =
    let first = rw c.in-Err.is at c.tally_all-tally.ensures.absent in
    rw (← c.batch.view_is, ← c.as_slice-changes.ensures.value)
    (c.if-changes-gt-MOST_CHANGES.false, c.in_default.ensures.none, least_absent _ _ c.in-Err.at first.bound first.absent first.before)

pub returns-then-has_too_many_links-clause-err : goal.returns-then-has_too_many_links-clause-err
returns-then-has_too_many_links-clause-err c =
    let tally = rw c.in-Ok.is at c.tally_all-tally.ensures.tally in
    rw (← c.batch.view_is, ← c.as_slice-changes.ensures.value, ← links_counted) (search (rules, tally.present))

pub returns-then-has_too_many_routers-clause-err : goal.returns-then-has_too_many_routers-clause-err
returns-then-has_too_many_routers-clause-err c =
    let tally = rw c.in-Ok.is at c.tally_all-tally.ensures.tally in
    rw (← c.batch.view_is, ← c.as_slice-changes.ensures.value, ← links_counted, ← routers_counted) (search (rules, tally.present))

pub returns-then-has_too_many_marks-clause-err : goal.returns-then-has_too_many_marks-clause-err
returns-then-has_too_many_marks-clause-err c =
    let tally = rw c.in-Ok.is at c.tally_all-tally.ensures.tally in
    rw (← c.batch.view_is, ← c.as_slice-changes.ensures.value, ← links_counted, ← routers_counted, ← marks_counted) (search (rules, tally.present))

pub returns-else-has_too_many_marks-clause-ok : goal.returns-else-has_too_many_marks-clause-ok
returns-else-has_too_many_marks-clause-ok c =
    let tally = rw c.in-Ok.is at c.tally_all-tally.ensures.tally in
    rw (← c.batch.view_is, ← c.as_slice-changes.ensures.value) (search (rules, tally.present, ← links_counted, ← routers_counted, ← marks_counted))

pub repeat-requires-clause-known : goal.repeat-requires-clause-known
repeat-requires-clause-known c on = told_apart _ _ _ c.tally_all-tally.ensures.tally (c.tells_apart.ensures on)

pub has_too_many_links-requires : goal.has_too_many_links-requires
has_too_many_links-requires c =
    let tally = rw c.in-Ok.is at c.tally_all-tally.ensures.tally in
    assumption (tally, c.in_default.ensures.none)

pub has_too_many_routers-requires : goal.has_too_many_routers-requires
has_too_many_routers-requires c =
    let tally = rw c.in-Ok.is at c.tally_all-tally.ensures.tally in
    assumption (tally, c.in_default.ensures.none)

pub returns-else-has_too_many_marks-clause-tally : goal.returns-else-has_too_many_marks-clause-tally
returns-else-has_too_many_marks-clause-tally c =
    let tally = rw c.in-Ok.is at c.tally_all-tally.ensures.tally in
    rw (← c.batch.view_is, ← c.as_slice-changes.ensures.value) tally
