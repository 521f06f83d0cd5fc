use Rattle.std.proofs.Common.{arith}
use Rattle.std.proofs.lemmas.Bool.Decides.{nat_tests}
use Rattle.cspf_db.proofs.Tables.TransitColumn.{unmarked_between, other_mark}
use Rattle.cspf_db.proofs.table.transits.is_unmarked_at.Goals as goal

pub returns-then-at-marks : goal.returns-then-at-marks
returns-then-at-marks c =
    rw (unmarked_between c.args.marks.now c.args.router c.args.at c.requires.rising c.requires.below (λ h. absurd (omega (arith, h, c.if-at-marks.true)))) (grind (arith, nat_tests))

pub returns-else-at-marks : goal.returns-else-at-marks
returns-else-at-marks c =
    rw c.ne.ensures (other_mark c.args.marks.now c.args.router c.args.at c.requires.rising c.requires.below c.index-marks-at.result c.if-at-marks.false (c.requires.behind c.if-at-marks.false) c.index-marks-at.is)
