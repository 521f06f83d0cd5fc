use Rattle.std.proofs.Common.{rules, arith, ap}
use Rattle.cspf_jobs.specs.DrawnNumbers.{DrawnNumbers}
use Rattle.cspf_jobs.proofs.DrawSteps.{draws}
use Rattle.cspf_jobs.proofs.drawer.Drawer.draw.Goals as goal

pub fetch_add-number-requires : goal.fetch_add-number-requires
fetch_add-number-requires c = (
  search rules,
  search rules,
  draws _ _ _ _ (let left = ap (λ (d : DrawnNumbers). d.left) c.self.view_is in let same = c.self.invariant.2 in let some = c.requires in omega arith),
)
