-- Private: the work of a worker: its draws from the counter, and its replies.
use Rattle.std.specs.Prelude.{◌≡◌, ℕ, ◌<◌, ◌≤◌, ◌++◌, List, [], ◌∷◌, length, map, flat_map, Option, Some, None, slice_get, IfSome, IsNone, All, vec_capacity}
use Rattle.core.specs.Option.{option_or}
use Rattle.std.specs.List.Sorted.{IsNonDecreasingBy, IsStrictlyIncreasing}
use Rattle.cspf_model.specs.Numbered.{NumberedChanges}
use Rattle.cspf_model.specs.declared.request.Request.{Request}
use Rattle.cspf_jobs.specs.DrawnNumbers.{CounterId, DrawnNumbers}
use Rattle.cspf_publish.specs.AskerStates.{AskerState}
use Rattle.cspf_work.specs.declared.crew.Room.{Room}
use Rattle.cspf_work.specs.declared.worker.Reply.{Reply}
use Rattle.cspf_work.specs.declared.worker.Results.{Results}
use Rattle.cspf_work.specs.declared.worker.Worker.{Worker}
use Rattle.cspf_work.specs.declared.serve_error.ServeError.{ServeError}
use Rattle.cspf_work.specs.Served.{IsAnswerWithin, KnowsNoLess, IsFaultOfWorker}

-- the indexes of the requests that these replies answer
abbrev pub indexes : List Reply → List ℕ
indexes done = map (λ r. r.index) done

-- The reply is right for a worker. The worker's asker (which computes its answers) knew the batches
-- `before` at the start and now knows the batches `known`.
pub record IsDone (requests : List Request) (before known : List NumberedChanges) (r : Reply) : Type 0 where
  pub inside : r.index < length requests
  pub later : length before ≤ r.answer.version
  pub version : r.answer.version ≤ length known
  pub answer : (q : Request) → slice_get requests r.index ≡ Some q → IsAnswerWithin known q r.answer

-- The replies of a worker are right, and their versions never decrease. The worker's asker (which
-- computes its answers) knew the batches of `before` at the start, and still knows them.
pub record HasDone (requests : List Request) (before : AskerState) (w : Worker) : Type 0 where
  pub asker : KnowsNoLess before w.asker
  pub done : All (IsDone requests before.batches w.asker.batches) w.done.items
  pub versions : IsNonDecreasingBy (λ r. r.answer.version) w.done.items

-- the worker drew the indexes of the requests that it answered, and then one last number that is at
-- least `bound`
abbrev pub HasDrawnAll : ℕ → Worker → Type 0
HasDrawnAll bound w = (last : ℕ) × (bound ≤ last) × (w.drawer.drawn ≡ indexes w.done.items ++ last ∷ [])

-- the worker has drawn nothing from the counter `id`, and has answered no request
pub record IsIdle (id : CounterId) (w : Worker) : Type 0 where
  pub done : w.done.items ≡ []
  pub fault : w.fault ≡ None
  pub drawn : w.drawer.drawn ≡ []
  pub counter : w.drawer.counter ≡ id

-- There is at least one worker, and all workers are idle. The counter from which they draw is for
-- these requests. `before` has the states of the workers' askers, which compute the answers.
pub record AreReady (id : CounterId) (requests : List Request) (before : List AskerState) (workers : List Worker) : Type 0 where
  pub count : id.requests ≡ length requests
  pub some : 0 < length workers
  pub askers : map (λ w. w.asker) workers ≡ before
  pub idle : All (IsIdle id) workers

-- The work of a worker whose loop has ended. `before` is the state of its asker (which computes its
-- answers) at the start.
pub record IsWorkerRun (id : CounterId) (requests : List Request) (before : AskerState) (after : Worker) : Type 0 where
  pub done : HasDone requests before after
  pub counter : after.drawer.counter ≡ id
  pub drawn : IsNone after.fault → HasDrawnAll (length requests) after
  pub fault : IfSome after.fault IsFaultOfWorker

-- The work of all workers after their loops have ended. There is at least one worker. `before` has
-- the states of their askers (which compute the answers) at the start.
pub record AreRun (id : CounterId) (requests : List Request) (before : List AskerState) (workers : List Worker) : Type 0 where
  pub some : 0 < length workers
  pub count : length workers ≡ length before
  pub each : (worker : ℕ) (known : AskerState) (after : Worker) → slice_get before worker ≡ Some known → slice_get workers worker ≡ Some after → IsWorkerRun id requests known after

-- all numbers that these workers drew from the counter
abbrev pub all_drawn : List Worker → List ℕ
all_drawn workers = flat_map (λ (d : DrawnNumbers). d.drawn) (map (λ w. w.drawer) workers)

-- the fault of the first worker that has a fault, or `None`
abbrev pub first_fault : List Worker → Option ServeError
first_fault [] = None
first_fault (w ∷ ws) = option_or w.fault (first_fault ws)

-- The results of these workers, which drew `numbers` from the counter. `before` has the states of
-- their askers (which compute the answers) at the start.
pub record AreResults (id : CounterId) (requests : List Request) (before : List AskerState) (numbers : List ℕ) (results : Results) (workers : List Worker) : Type 0 where
  pub run : AreRun id requests before workers
  pub askers : results.askers.items ≡ map (λ w. w.asker) workers
  pub lists : results.lists.items ≡ map (λ w. w.done) workers
  pub drawn : numbers ≡ all_drawn workers
  pub rising : All (λ (d : DrawnNumbers). IsStrictlyIncreasing d.drawn) (map (λ w. w.drawer) workers)
  pub fault : IfSome results.fault IsFaultOfWorker
  pub none : IsNone results.fault → All (λ w. IsNone w.fault) workers
  pub first : results.fault ≡ first_fault workers

-- the workers are ready; nothing is stated about the batches that their askers (which compute the
-- answers) know
abbrev pub CanBegin : CounterId → List Request → List Worker → Type 0
CanBegin id requests workers = (before : List AskerState) × AreReady id requests before workers

-- the results of workers that were ready at the start and have ended
abbrev pub AreLeft : CounterId → List Request → List Worker → List ℕ → Results → Type 0
AreLeft id requests idle numbers results =
    (before : List AskerState) → AreReady id requests before idle
    → (workers : List Worker) × AreResults id requests before numbers results workers

-- the lists of `room` are empty, and have capacity for the results of `count` workers
pub record IsRoomFor (count : ℕ) (room : Room) : Type 0 where
  pub no_askers : room.askers.items ≡ []
  pub no_drawers : room.drawers.items ≡ []
  pub no_lists : room.lists.items ≡ []
  pub askers : count ≤ vec_capacity room.askers
  pub drawers : count ≤ vec_capacity room.drawers
  pub lists : count ≤ vec_capacity room.lists
