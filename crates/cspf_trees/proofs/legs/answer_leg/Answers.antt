use Rattle.std.proofs.Common.{ℕ, Result, Ok, Err, IfOk}
use Rattle.cspf_model.specs.declared.outcome.Outcome.{Outcome}
use Rattle.cspf_model.specs.declared.request.Request.{Request}
use Rattle.cspf_model.specs.Best.{IsBestAnswer}
use Rattle.cspf_model.specs.Database.{Database}
use Rattle.cspf_model.specs.Outcome.{answer_of}
use Rattle.cspf_trees.specs.LegsInTurn.{AsksForLeg, IsLegAnswer}
use Rattle.cspf_trees.proofs.legs.answer_leg.Goals as goal

-- the best answer to the request for a leg meets `IsLegAnswer`
to_leg : {E : Type 0} (d : Database) (q leg : Request) (start target : ℕ) → AsksForLeg q leg start target → (r : Result Outcome E)
    → IfOk r (λ outcome. IsBestAnswer d leg (answer_of outcome)) → IfOk r (λ outcome. IsLegAnswer d q start target (answer_of outcome))
to_leg d q leg start target asks (Ok outcome) best = record { leg = leg; asks = asks; best = best }
to_leg d q leg start target asks (Err e) best = tt

pub returns-clause-answer : goal.returns-clause-answer
returns-clause-answer c =
    to_leg c.args.table.now c.args.request.now c.leg_request-leg.result c.args.from c.args.to c.leg_request-leg.ensures c.best_by_row.result c.best_by_row.ensures.best
