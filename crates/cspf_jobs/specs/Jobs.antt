-- Defines how the jobs of a run end.
use Rattle.std.specs.Prelude.{◌≡◌, ℕ, ◌+◌, ◌<◌, ◌≤◌, ⊤, List, [], ◌∷◌, ◌++◌, Result, Ok, Err, IsOkAnd, MatchResult, vec_capacity}
use Rattle.std.specs.Global.{Vec}
use Rattle.std.specs.Vec.{vec_ptr}
use Rattle.cspf_jobs.specs.declared.go.JobCount.{Ghosts}
use Rattle.cspf_jobs.specs.declared.word.NoThread.{NoThread}
use Rattle.cspf_jobs.specs.declared.crew.Came.{Came}

-- Each job is done by the worker at the same index in the list of workers. The job's output is at
-- the same index in the list of outputs.
abbrev pub AreDone : {W J O : Type 0} → (W → J → O → Type 0) → List W → List J → List O → Type 0
AreDone done [] [] [] = ⊤
AreDone done [] [] (o ∷ os) = ⊥
AreDone done [] (j ∷ js) os = ⊥
AreDone done (w ∷ ws) [] os = ⊥
AreDone done (w ∷ ws) (j ∷ js) [] = ⊥
AreDone done (w ∷ ws) (j ∷ js) (o ∷ os) = done w j o × AreDone done ws js os

-- Private: the count of threads after one more job got a thread. If there is an earlier refusal,
-- the result is still that refusal.
abbrev pub with_thread : Result ℕ NoThread → Result ℕ NoThread
with_thread (Ok n) = Ok (n + 1)
with_thread (Err first) = Err first

-- Private: the count of threads after this job was refused a thread. The result is this refusal, or
-- an earlier one if there is one.
abbrev pub without_thread : ℕ → Result ℕ NoThread → Result ℕ NoThread
without_thread job (Ok n) = Err (record { job = job })
without_thread job (Err first) = Err first

-- Private: a thread has read the decision whether the jobs begin. If they begin, the thread has
-- done its job. If not, it returns the job.
pub record HasCome {N W J O : Type 0} {n : Ghosts N} (done : W → J → O → Type 0) (word : ℕ) (worker : W) (job : J) (came : Came N J O n) : Type 0 where
  pub heard : came.said.of ≡ word
  pub ended : MatchResult came.said.value (λ go. IsOkAnd came.ended (done worker job)) (λ not. came.ended ≡ Err job)

-- Private: if the decision was that the jobs begin, all jobs were done, and the calling thread did
-- the work `last`. Otherwise all jobs and the work `last` are returned unchanged.
abbrev pub HaveEnded : {G W J O M P : Type 0} → (W → J → O → Type 0) → (M → Unit {0} → P → Type 0) → List W → Vec J → List O → M → Vec J → Result G NoThread → Result P M → Type 0
HaveEnded done last_done workers jobs outputs last left said ended =
    MatchResult said
    (λ go. AreDone done workers jobs.items outputs × IsOkAnd ended (last_done last tt))
    (λ not. (left ≡ jobs) × (ended ≡ Err last))

-- Private: if no error is returned, all jobs were done, and the calling thread did the work `last`.
-- An error returns all jobs and the work `last` unchanged, and names one job.
abbrev pub HaveRun : {W J O M P : Type 0} → (W → J → O → Type 0) → (M → Unit {0} → P → Type 0) → List W → Vec J → M → Result (Vec O × P) (NoThread × Vec J × M) → Type 0
HaveRun done last_done workers jobs last result =
    MatchResult result
    (λ r. AreDone done workers jobs.items r.0.items × last_done last tt r.1)
    (λ e. (0 < e.0.job) × (e.0.job ≤ jobs.len) × (e.1 ≡ jobs) × (e.2 ≡ last))

-- Private: the vector has one more element at its end, at the same address and with the same
-- capacity.
pub record IsPushed {X : Type 0} (old new : Vec X) (x : X) : Type 0 where
  pub items : new.items ≡ old.items ++ x ∷ []
  pub place : vec_ptr new ≡ vec_ptr old
  pub capacity : vec_capacity new ≡ vec_capacity old
