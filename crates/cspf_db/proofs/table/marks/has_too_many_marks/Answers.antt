use Rattle.std.proofs.Common.{◌≡◌, count_by, rules, arith}
use Rattle.cspf_model.specs.Lemmas.LinkRows.{marks_in}
use Rattle.cspf_model.specs.Lemmas.MarkChanges.{adds_mark, removes_mark}
use Rattle.cspf_db.proofs.Tables.MarkChanges.{len-marks_in, marks_count, marks_difference}
use Rattle.cspf_db.proofs.table.marks.has_too_many_marks.Goals as goal

-- `count-added` returns the number of changes that add a mark, and `count-removed` returns the
-- number of changes that remove a mark. A mark says that a router has no transit.
counted : (c : goal.After-count-removed) → (c.count-added.result ≡ count_by (adds_mark (marks_in c.args.marks.now)) c.args.changes.now) × (c.count-removed.result ≡ count_by (removes_mark (marks_in c.args.marks.now)) c.args.changes.now)
counted c = search rules

pub overflow_sub-after : goal.overflow_sub-after
overflow_sub-after c =
    omega (arith, marks_count (marks_in c.args.marks.now) c.args.changes.now c.requires.once, len-marks_in c.args.marks.now c.requires.rising, counted c)

pub returns : goal.returns
returns c =
    rw (marks_difference c.args.marks.now c.args.changes.now c.requires.rising c.requires.once, (counted c).0, (counted c).1) (search rules)
