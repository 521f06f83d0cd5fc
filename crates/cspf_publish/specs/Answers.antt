-- Defines the right answer of an asker to a request.
use Rattle.std.specs.Prelude.{◌≡◌, List, length}
use Rattle.cspf_model.specs.declared.request.Request.{Request}
use Rattle.cspf_model.specs.Numbered.{NumberedChanges}
use Rattle.cspf_model.specs.Changes.{database_after}
use Rattle.cspf_model.specs.Best.{IsBestAnswer}
use Rattle.cspf_model.specs.declared.outcome.Outcome.{Outcome}
use Rattle.cspf_model.specs.Outcome.{answer_of}
use Rattle.cspf_publish.specs.declared.answer.Answer.{Answer}

-- the outcome is the best answer to the request, in the database of these batches
abbrev pub IsBestAfter : List NumberedChanges → Request → Outcome → Type 0
IsBestAfter batches q outcome = IsBestAnswer (database_after batches) q (answer_of outcome)

-- The answer has the id of the request. Its version is the number of these batches. Its outcome is
-- the best answer in the database of these batches.
pub record IsAnswerAfter (batches : List NumberedChanges) (q : Request) (a : Answer) : Type 0 where
  pub id : a.id ≡ q.id
  pub version : a.version ≡ length batches
  pub best : IsBestAfter batches q a.outcome
