use Rattle.std.proofs.Common.{◌≤◌, All, take}
use Rattle.cspf_work.proofs.strays.first_stray.Given as goal

abbrev pub invariant-loop-index : goal.invariant-loop-index
invariant-loop-index l = All (λ a. (l.least ≤ a.version) × (a.version ≤ l.most)) (take l.index l.list)
