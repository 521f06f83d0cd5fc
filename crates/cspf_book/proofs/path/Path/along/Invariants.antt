use Rattle.std.proofs.Common.{◌≡◌, ◌++◌, drop}
use Rattle.cspf_book.specs.PathsFrom.{path_from}
use Rattle.cspf_book.proofs.path.Path.along.Given as goal

abbrev pub invariant-loop-step : goal.invariant-loop-step
invariant-loop-step l =
    path_from l.fn.from l.steps ≡ l.links.items ++ path_from l.router (drop l.step-index l.steps)
