use Rattle.std.proofs.Common.{take}
use Rattle.cspf_judge.specs.Requests.{HaveOwnIdsBy}
use Rattle.cspf_judge.specs.Reading.{ArePlaces}
use Rattle.cspf_judge.proofs.audits.ids.index_ids.Given as goal

abbrev pub invariant-loop-index : goal.invariant-loop-index
invariant-loop-index g l = record {
  places : ArePlaces g.A.Asks.spec.id l.ids (take l.index l.requests);
  own : HaveOwnIdsBy g.A.Asks.spec.id (take l.index l.requests);
}
