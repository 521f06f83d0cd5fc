use Rattle.std.proofs.Common.{rules, arith}
use Rattle.std.proofs.lemmas.List.Elements.{recursion_from_All}
use Rattle.cspf_model.specs.Changes.{IsPresent}
use Rattle.cspf_model.specs.Lemmas.LinkRows.{database_of}
use Rattle.cspf_db.proofs.Tables.LinkCounts.{sum_after, difference_after}
use Rattle.cspf_db.proofs.table.fit.has_too_many_links.Goals as goal

pub overflow_sub-after : goal.overflow_sub-after
overflow_sub-after c =
    let present = recursion_from_All (IsPresent (database_of c.args.columns.now.rows.items)) c.args.changes.now c.requires.present in
    omega
    (arith, sum_after c.args.columns.now.rows.items c.args.changes.now c.requires.columns.parts.by_key c.requires.once present, c.requires.added, c.count_removed.ensures)

pub returns : goal.returns
returns c =
    let present = recursion_from_All (IsPresent (database_of c.args.columns.now.rows.items)) c.args.changes.now c.requires.present in
    rw (difference_after c.args.columns.now.rows.items c.args.changes.now c.requires.columns.parts.by_key c.requires.once present, c.requires.added, c.count_removed.ensures) (search rules)
