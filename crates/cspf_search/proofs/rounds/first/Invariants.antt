use Rattle.cspf_db.specs.Index.{links_of}
use Rattle.cspf_search.specs.Rounds.{IsFirst, CrossesBelow}
use Rattle.cspf_search.specs.RoundSteps.{AreLows}
use Rattle.cspf_search.proofs.rounds.first.Given as goal

abbrev pub invariant-loop-at : goal.invariant-loop-at
invariant-loop-at l = record {
  best : IsFirst l.round.nodes.now (CrossesBelow l.round.query.table.now l.round.query.request.now l.round.nodes.now (links_of l.round.query.table.now) l.at) l.best;
  lows : AreLows l.round.query.table.now l.round.query.request.now l.round.nodes.now l.lows.items;
}
