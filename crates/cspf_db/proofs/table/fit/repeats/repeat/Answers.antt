use Rattle.cspf_model.proofs.Batches.LeastReasons.{once_if_none}
use Rattle.cspf_db.proofs.table.fit.repeats.repeat.Goals as goal

pub returns-else-are_apart-clause-none : goal.returns-else-are_apart-clause-none
returns-else-are_apart-clause-none c = once_if_none _ _ c.first_repeat.ensures.none
