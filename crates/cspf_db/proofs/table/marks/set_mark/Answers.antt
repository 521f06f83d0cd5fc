use Rattle.std.proofs.Common.{sym, ap, ◌∙◌, not}
use Rattle.cspf_db.proofs.Tables.MarkChanges.{marks-insert, marks-without, rising-without, marks-same, marked_at, unmarked_gap}
use Rattle.cspf_columns.proofs.RouterLists.{put-new, rising-put}
use Rattle.cspf_db.proofs.table.marks.set_mark.Goals as goal

pub returns-then-transit-clause-marked : goal.returns-then-transit-clause-marked
returns-then-transit-clause-marked c =
    let at = rw c.deref.ensures.value at c.in-Ok.ensures in
    rw (c.remove.ensures.items, c.if-transit.true) (marks-without c.args.marks.now.items c.in-Ok.at c.args.router c.requires.rising at.within (at.found c.args.router))

pub returns-then-transit-clause-rising : goal.returns-then-transit-clause-rising
returns-then-transit-clause-rising c =
    rw c.remove.ensures.items (rising-without c.args.marks.now.items c.in-Ok.at c.requires.rising)

pub returns-else-transit-clause-marked : goal.returns-else-transit-clause-marked
returns-else-transit-clause-marked c =
    let at = rw c.deref.ensures.value at c.in-Ok.ensures in
    marks-same _ c.args.router c.args.transit (marked_at c.args.marks.now.items c.in-Ok.at c.args.router at.within (at.found c.args.router) ∙ sym (ap not c.if-transit.false))

pub returns-then-not-transit-clause-marked : goal.returns-then-not-transit-clause-marked
returns-then-not-transit-clause-marked c =
    let at = rw c.deref.ensures.value at c.in-Err.ensures in
    rw (c.insert_within.ensures.items, c.if-not-transit.true) (marks-insert c.args.marks.now.items c.in-Err.at c.args.router at.upto)

pub returns-then-not-transit-clause-rising : goal.returns-then-not-transit-clause-rising
returns-then-not-transit-clause-rising c =
    let at = rw c.deref.ensures.value at c.in-Err.ensures in
    rw c.insert_within.ensures.items (rising-put c.args.marks.now.items _ c.args.router c.requires.rising (put-new c.args.marks.now.items c.args.router c.in-Err.at at.upto at.gap))

pub returns-else-not-transit-clause-marked : goal.returns-else-not-transit-clause-marked
returns-else-not-transit-clause-marked c =
    let at = rw c.deref.ensures.value at c.in-Err.ensures in
    marks-same _ c.args.router c.args.transit (unmarked_gap c.args.marks.now.items c.args.router c.in-Err.at at.gap ∙ sym (ap not c.if-not-transit.false))
