use Rattle.cspf_search.specs.Rounds.{IsFirst}
use Rattle.cspf_search.specs.RoundSteps.{LeadsToRow}
use Rattle.cspf_search.proofs.rounds.look_from.Given as goal

abbrev pub invariant-loop-row : goal.invariant-loop-row
invariant-loop-row l = IsFirst l.look.nodes.now (LeadsToRow l.look l.row) l.best
