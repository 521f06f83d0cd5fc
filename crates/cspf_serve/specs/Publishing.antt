-- What a run has to know of the state that answers the rows of its stream and publishes batches.
use Rattle.std.specs.Prelude.{◌≡◌, ℕ, suc, ◌≤◌, List, length}
use Rattle.cspf_publish.specs.Histories.{BeginsWith}
use Rattle.cspf_publish.specs.JournalSteps.{KnownSteps, batches_of, count_of}
use Rattle.cspf_publish.specs.PublisherStates.{PublisherState}
use Rattle.cspf_stream.specs.RowAnswers.{AnswersOf}
use Rattle.cspf_stream.specs.StreamStops.{FailsOf}

pub record PublishingSpec (S J R : Type 0) : Type 1 where
  -- the publisher, whose journal has a writer of the type `J`
  pub publisher : S → PublisherState J
  -- the steps of the journal, up to the step that counts the publisher's last batch as published
  pub steps : S → KnownSteps
  -- the line that is written last, if the rows end in this state
  pub last : S → List ℕ → Type 0
  -- the stream had refusals, which the status of the run says
  pub refused : S → Type 0
  -- what the state has beside the publisher, such as another writer
  pub rest : S → R
  -- an invariant of the states between two rows
  pub invariant : S → Type 0

-- The steps are steps of the publisher's journal. They record the publisher's batches, and count
-- all of these batches as published.
pub record AreAllCounted {J : Type 0} (p : PublisherState J) (steps : KnownSteps) : Type 0 where
  pub source : steps.source ≡ p.source
  pub recorded : BeginsWith (batches_of steps.steps) p.batches
  pub counted : length p.batches ≤ count_of steps.steps

-- The answer to a row keeps the invariant and the identity of the publisher's journal (its source).
-- If the answer fails, it keeps the identity. `before` is the number of the rows before this row.
pub record HasOneSource {S J R F : Type 0} (spec : PublishingSpec S J R) (answers : AnswersOf S) (fails : F → FailsOf S) : Type 0 where
  pub answered : (before : ℕ) (s t : S) (fields : List (List ℕ)) (line : List ℕ) → spec.invariant s → answers (suc before) s fields line t
      → spec.invariant t × ((spec.publisher t).source ≡ (spec.publisher s).source)
  pub failed : (fault : F) (before : ℕ) (s t : S) (fields : List (List ℕ)) → spec.invariant s → fails fault (suc before) s fields t
      → (spec.publisher t).source ≡ (spec.publisher s).source
