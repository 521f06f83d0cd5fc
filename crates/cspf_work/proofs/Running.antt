-- The work of all workers, described for each worker.
use Rattle.std.proofs.Common.{◌≡◌, ℕ, zero, suc, ◌<◌, List, [], ◌∷◌, ◌++◌, All, IfSome, IsNone, take, length, map, Option, Some, None, get_or, refl, sym, ap, ◌∙◌, subst, arith, slice_get, rules}
use Rattle.std.specs.Option.{option_map}
use Rattle.std.proofs.lemmas.List.{length-map}
use Rattle.std.proofs.lemmas.List.Elements.{All-map}
use Rattle.std.proofs.lemmas.Option.{slice_get_within, slice_get-map, slice_get-get_or, get_or_from_slice_get}
use Rattle.cspf_model.specs.declared.request.Request.{Request}
use Rattle.cspf_jobs.specs.DrawnNumbers.{CounterId, DrawnNumbers}
use Rattle.cspf_publish.specs.AskerStates.{AskerState}
use Rattle.cspf_work.specs.declared.worker.Worker.{Worker}
use Rattle.std.proofs.Math.Seq.{take-append_seam}
use Rattle.cspf_work.specs.declared.worker.Reply.{Reply}
use Rattle.cspf_work.specs.declared.worker.Results.{Results}
use Rattle.cspf_work.specs.Served.{AreSameAskers, IsFaultOfWorker, KnowsNoLess}
use Rattle.cspf_work.specs.Working.{HasDrawnAll, IsWorkerRun, AreReady, AreResults, AreRun, AreLeft}

-- a list has an element at each index below its length
pub at_place : {X : Type 0} (xs : List X) (i : ℕ) → i < length xs → (x : X) × (slice_get xs i ≡ Some x)
at_place [] i less = absurd (omega arith)
at_place (x ∷ xs) zero less = (x, refl)
at_place (x ∷ xs) (suc i) less = at_place xs i (omega arith)

-- the loop of the worker at each index has ended as `IsWorkerRun` says
abbrev pub AreRunByPlace : CounterId → List Request → List Worker → List Worker → Type 0
AreRunByPlace counter requests old new = (i : ℕ) (d : Worker) → i < length old → IsWorkerRun counter requests (get_or old i d).asker (get_or new i d)

run_at : (counter : CounterId) (requests : List Request) (old new : List Worker) → AreRunByPlace counter requests old new → (i : ℕ) (known : AskerState) (after : Worker) (o : Option Worker)
    → slice_get old i ≡ o → option_map (λ (w : Worker). w.asker) o ≡ Some known → slice_get new i ≡ Some after → IsWorkerRun counter requests known after
run_at counter requests old new run i known after (Some w) at is there =
    let less = slice_get_within old i w at in
    let before : (get_or old i after).asker ≡ known = ap (λ (v : Worker). v.asker) (get_or_from_slice_get old i w after at) ∙ cc is in
    subst (λ (v : Worker). IsWorkerRun counter requests known v) (get_or_from_slice_get new i after after there)
    (subst (λ (k : AskerState). IsWorkerRun counter requests k (get_or new i after)) before (run i after less))
run_at counter requests old new run i known after None at is there = absurd (cc is)

pub run_each : (counter : CounterId) (requests : List Request) (old new : List Worker) → 0 < length old → length new ≡ length old → AreRunByPlace counter requests old new → AreRun counter requests (map (λ w. w.asker) old) new
run_each counter requests old new some same run = record {
  some = omega (arith, same);
  count = same ∙ sym (length-map old (λ (w : Worker). w.asker));
  each = λ i known after at there. run_at counter requests old new run i known after (slice_get old i) refl (sym (slice_get-map (λ (w : Worker). w.asker) old i) ∙ at) there;
}

-- if the loops of all workers have ended, the loop of the worker at each index has ended
run_of : (counter : CounterId) (requests : List Request) (before : List AskerState) (workers : List Worker) → AreRun counter requests before workers → (i : ℕ) (d : Worker) → i < length workers
    → (known : AskerState) × IsWorkerRun counter requests known (get_or workers i d)
run_of counter requests before workers run i d less =
    let known = at_place before i (let e = run.count in omega arith) in
    (known.0, run.each i known.0 (get_or workers i d) known.1 (slice_get-get_or workers i d less))

pub run_faults : (counter : CounterId) (requests : List Request) (before : List AskerState) (workers : List Worker) → AreRun counter requests before workers → All (λ (w : Worker). IfSome w.fault IsFaultOfWorker) workers
run_faults counter requests before workers run i d less = (run_of counter requests before workers run i d less).1.fault

pub run_inside : (counter : CounterId) (requests : List Request) (before : List AskerState) (workers : List Worker) → AreRun counter requests before workers
    → All (λ (w : Worker). All (λ (r : Reply). r.index < length requests) w.done.items) workers
run_inside counter requests before workers run i d less k e inside = ((run_of counter requests before workers run i d less).1.done.done k e inside).inside

-- all workers drew the indexes of their requests from the counter `counter`
pub run_counters : (counter : CounterId) (requests : List Request) (before : List AskerState) (workers : List Worker) → AreRun counter requests before workers
    → All (λ (d : DrawnNumbers). d.counter ≡ counter) (map (λ (w : Worker). w.drawer) workers)
run_counters counter requests before workers run =
    All-map (λ (d : DrawnNumbers). d.counter ≡ counter) (λ (w : Worker). w.drawer) workers (λ i d less. (run_of counter requests before workers run i d less).1.counter)

-- if no worker has a fault, each worker has drawn from the counter until it got a number that isn't
-- the index of a request
pub run_drawn : (counter : CounterId) (requests : List Request) (before : List AskerState) (workers : List Worker) → AreRun counter requests before workers
    → All (λ (w : Worker). IsNone w.fault) workers → All (λ (w : Worker). HasDrawnAll (length requests) w) workers
run_drawn counter requests before workers run none i d less = (run_of counter requests before workers run i d less).1.drawn (none i d less)

-- after the work, each asker (which computes a worker's answers) knows at least the batches that it
-- knew before
pub run_askers : (counter : CounterId) (requests : List Request) (before : List AskerState) (workers : List Worker) (after : List AskerState)
    → after ≡ map (λ w. w.asker) workers → AreRun counter requests before workers → AreSameAskers before after
run_askers counter requests before workers after askers run = record {
  count = ap length askers ∙ length-map workers (λ (w : Worker). w.asker) ∙ run.count;
  each = λ i old new at there.
      asker_at i old new (slice_get workers i) refl at (sym (slice_get-map (λ (w : Worker). w.asker) workers i) ∙ ap (λ (l : List AskerState). slice_get l i) (sym askers) ∙ there);
}
  where
    asker_at : (i : ℕ) (old new : AskerState) (o : Option Worker) → slice_get workers i ≡ o → slice_get before i ≡ Some old → option_map (λ (w : Worker). w.asker) o ≡ Some new → KnowsNoLess old new
    asker_at i old new (Some w) here at there = subst (λ (k : AskerState). KnowsNoLess old k) (cc there) ((run.each i old w at here).done.asker)
    asker_at i old new None here at there = absurd (cc there)

-- if a slice of `n` elements replaces the first `n` elements of a list, the list begins with this
-- slice
written_back : {X : Type 0} (new rest : List X) (n : ℕ) → n ≡ length new → take n (new ++ rest) ≡ new
written_back new rest n long = ap (λ m. take m (new ++ rest)) long ∙ take-append_seam new rest

-- The list of workers is lent as a slice. If the workers of the slice have run, the workers of the
-- list have run after the slice is written back.
pub run_written_back : (counter : CounterId) (requests : List Request) (before : List AskerState) (workers lent new rest : List Worker) (n : ℕ)
    → lent ≡ workers → n ≡ length workers → AreReady counter requests before workers
    → (AreReady counter requests before lent → AreRun counter requests before new) → AreRun counter requests before (take n (new ++ rest))
run_written_back counter requests before workers lent new rest n same long ready run = search (rules, length-map, written_back)

-- these are the results of some workers that were ready at the start and drew from the counter `id`
pub results_of : (own id : CounterId) (requests : List Request) (before : List AskerState) (idle : List Worker) (numbers : List ℕ) (results : Results)
    → own ≡ id → AreReady id requests before idle → AreLeft own requests idle numbers results
    → (workers : List Worker) × AreResults id requests before numbers results workers
results_of own id requests before idle numbers results same ready run =
    subst (λ (k : CounterId). (workers : List Worker) × AreResults k requests before numbers results workers) same
    (run before (subst (λ (k : CounterId). AreReady k requests before idle) (sym same) ready))

-- these are the results of some workers, for some states of their askers (which compute their
-- answers) at the start
pub left_of : (own id : CounterId) (requests : List Request) (before : List AskerState) (idle : List Worker) (numbers : List ℕ) (results : Results)
    → own ≡ id → AreReady id requests before idle → AreLeft own requests idle numbers results
    → (known : List AskerState) × (workers : List Worker) × AreResults id requests known numbers results workers
left_of own id requests before idle numbers results same ready run =
    let is = results_of own id requests before idle numbers results same ready run in
    (before, is.0, is.1)

-- The workers were ready at the start, with askers (which compute their answers) in the states
-- `before`, and they have ended. If `P` holds of each list `known` for which `AreResults` holds of
-- the workers' results, then `P` holds of `before`.
pub of_results : (P : List AskerState → Type 0) (own id : CounterId) (requests : List Request) (before : List AskerState) (idle : List Worker) (numbers : List ℕ) (results : Results)
    → own ≡ id → AreReady id requests before idle → AreLeft own requests idle numbers results
    → ((known : List AskerState) (workers : List Worker) → AreResults id requests known numbers results workers → P known)
    → P before
of_results P own id requests before idle numbers results same ready run each =
    let is = results_of own id requests before idle numbers results same ready run in
    each before is.0 is.1
