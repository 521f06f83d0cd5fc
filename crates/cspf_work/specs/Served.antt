-- Defines which answers of workers are right, and which worker answered which request.
use Rattle.std.specs.Prelude.{◌≡◌, ℕ, ◌<◌, ◌≤◌, ◌⊎◌, List, length, take, Some, slice_get, unwrap_or, option_map, All, sum_by, Vec}
use Rattle.std.specs.Global.{Global}
use Rattle.std.specs.List.Sorted.{IsNonDecreasingBy}
use Rattle.cspf_model.specs.Numbered.{NumberedChanges}
use Rattle.cspf_model.specs.declared.request.Request.{Request}
use Rattle.cspf_jobs.specs.EachOnce.{times, once_below}
use Rattle.cspf_publish.specs.declared.answer.Answer.{Answer}
use Rattle.cspf_publish.specs.Answers.{IsAnswerAfter}
use Rattle.cspf_publish.specs.Histories.{BeginsWith}
use Rattle.cspf_publish.specs.AskerStates.{AskerState}
use Rattle.cspf_work.specs.declared.serve_error.ServeError.{ServeError}
use Rattle.cspf_work.specs.declared.serve_error.ServeError.TheVariants.{Memory, NoEntry, Unaccounted}

-- The answer is the best answer in the database that a prefix of these batches makes. The answer's
-- version is the number of batches in the prefix.
pub record IsAnswerWithin (batches : List NumberedChanges) (q : Request) (a : Answer) : Type 0 where
  pub version : a.version ≤ length batches
  pub answer : IsAnswerAfter (take a.version batches) q a

-- the version of the answer at this index, or 0 if there is no such answer
abbrev pub version_at : List Answer → ℕ → ℕ
version_at list index = unwrap_or (option_map (λ a. a.version) (slice_get list index)) 0

-- The answer to the request at this index is computed from a prefix of the batches `after`. The
-- worker's asker, which computes its answers, knows these batches at the end. The prefix is at
-- least as long as `before`, the batches that the asker knew at the start.
pub record IsServedAt (requests : List Request) (list : List Answer) (before after : List NumberedChanges) (index : ℕ) : Type 0 where
  pub later : length before ≤ version_at list index
  pub answer : (q : Request) (a : Answer) → slice_get requests index ≡ Some q → slice_get list index ≡ Some a → IsAnswerWithin after q a

-- A worker answered the requests at these indexes, in this order. Its asker, which computes its
-- answers, knew the batches `before` at the start and knows the batches `after` at the end. Each
-- answer's version is at least the version of the answer before it.
pub record IsServed (requests : List Request) (list : List Answer) (before after : List NumberedChanges) (indexes : List ℕ) : Type 0 where
  pub answers : All (IsServedAt requests list before after) indexes
  pub versions : IsNonDecreasingBy (version_at list) indexes

-- Each worker answered the requests whose indexes it drew from the counter. `before` and `after`
-- have the states of the workers' askers at the start and at the end. An asker computes a worker's
-- answers.
abbrev pub AreServed : List Request → List Answer → List AskerState → List AskerState → List (Vec ℕ Global) → Type 0
AreServed requests list before after drawn =
    (worker : ℕ) (old new : AskerState) (indexes : Vec ℕ Global)
    → slice_get before worker ≡ Some old → slice_get after worker ≡ Some new → slice_get drawn worker ≡ Some indexes
    → IsServed requests list old.batches new.batches indexes.items

-- the asker (which computes a worker's answers) still belongs to the same journal (its source), and
-- knows all batches that it knew before
pub record KnowsNoLess (old new : AskerState) : Type 0 where
  pub source : new.source ≡ old.source
  pub later : BeginsWith new.batches old.batches

-- the lists have the same askers (which compute the workers' answers) in the same order, and each
-- asker knows at least the batches that it knew before
pub record AreSameAskers (before after : List AskerState) : Type 0 where
  pub count : length after ≡ length before
  pub each : (worker : ℕ) (old new : AskerState) → slice_get before worker ≡ Some old → slice_get after worker ≡ Some new → KnowsNoLess old new

-- each number below `bound` is in exactly one of the lists, and only once; no list has other
-- numbers
abbrev pub HoldEachOnce : ℕ → List (Vec ℕ Global) → Type 0
HoldEachOnce bound lists = (x : ℕ) → sum_by (λ (list : Vec ℕ Global). times x list.items) lists ≡ once_below bound x

-- why a worker stopped: memory was refused, or the worker couldn't enter (begin to read) the
-- published replica, a copy of the database
abbrev pub IsFaultOfWorker : ServeError → Type 0
IsFaultOfWorker e = (e ≡ Memory) ⊎ (e ≡ NoEntry)

-- Workers answered all requests: each request's index was drawn from the counter exactly once, and
-- the worker that drew it answered the request.
pub record AreAnsweredByWorkers (requests : List Request) (before after : List AskerState) (list : List Answer) (drawn : List (Vec ℕ Global)) : Type 0 where
  pub count : length list ≡ length requests
  pub lists : length drawn ≡ length before
  pub once : HoldEachOnce (length requests) drawn
  pub served : AreServed requests list before after drawn

-- The answer to each request is computed from a prefix of these batches.
pub record AreAnswersWithin (batches : List NumberedChanges) (requests : List Request) (list : List Answer) : Type 0 where
  pub each : (index : ℕ) (q : Request) (a : Answer) → slice_get requests index ≡ Some q → slice_get list index ≡ Some a → IsAnswerWithin batches q a

-- the error names a request and the version of its answer; this version is above the published
-- versions
abbrev pub IsUnaccounted : ℕ → ℕ → ServeError → Type 0
IsUnaccounted requests published e =
    (index : ℕ) × (version : ℕ) × (e ≡ Unaccounted index version) × (index < requests) × (published < version)

-- each request has an answer, and each answer is computed from all of these batches
pub record AreAnswersAfter (batches : List NumberedChanges) (requests : List Request) (list : List Answer) : Type 0 where
  pub count : length list ≡ length requests
  pub each : (index : ℕ) (q : Request) (a : Answer) → slice_get requests index ≡ Some q → slice_get list index ≡ Some a
      → IsAnswerAfter batches q a
