use Rattle.std.proofs.Common.{◌≡◌, true, ◌≤◌, ◌*◌, take, count_by}
use Rattle.std.specs.List.{AllWithin}
use Rattle.cspf_model.specs.Changes.{IsPresent}
use Rattle.cspf_columns.specs.AlikeChanges.{IsAlike}
use Rattle.cspf_model.specs.Lemmas.CountedEnds.{HasListedEnds, BringsAtMost}
use Rattle.cspf_model.specs.Lemmas.LinkRows.{database_of}
use Rattle.cspf_model.specs.Lemmas.RowsLeft.{adds_link}
use Rattle.cspf_db.specs.Tables.Tallies.{AreOnSeenRows}
use Rattle.cspf_db.proofs.table.fit.tally.tally_each.Given as goal

abbrev pub invariant-loop-at : goal.invariant-loop-at
invariant-loop-at l = record {
  present : AllWithin (IsPresent (database_of l.columns.rows.items)) l.changes 0 l.at;
  added : l.added ≡ count_by (adds_link (database_of l.columns.rows.items)) (take l.at l.changes);
  few_added : l.added ≤ l.at;
  few : l.brought ≤ 2 * l.at;
  most : BringsAtMost l.columns.routers.items (take l.at l.changes) l.brought;
  alike : l.alike ≡ true → AllWithin (IsAlike l.columns.rows.items) l.changes 0 l.at;
  apart : l.apart ≡ true → AreOnSeenRows l.columns.rows.items l.changes l.seen l.at;
  listed : l.brought ≡ 0 → AllWithin (HasListedEnds l.columns.routers.items) l.changes 0 l.at;
}
