-- The answers of all workers are collected into one list.
use Rattle.std.proofs.Common.{◌≡◌, ℕ, ◌<◌, ◌≤◌, List, [], ◌∷◌, length, map, Option, Some, None, get_or, All, Vec, refl, sym, ap, ◌∙◌, subst, arith, slice_get}
use Rattle.std.proofs.lemmas.Grind.{common_steps}
use Rattle.std.specs.Global.{Global}
use Rattle.std.specs.Option.{option_map}
use Rattle.std.specs.List.Sorted.{IsNonDecreasingBy}
use Rattle.std.proofs.lemmas.List.{length-map}
use Rattle.std.proofs.lemmas.List.Elements.{All-map}
use Rattle.std.proofs.lemmas.List.Sorted.{IsNonDecreasingBy-from_default, IsNonDecreasingBy-short}
use Rattle.std.proofs.lemmas.Option.{slice_get_within, slice_get-map, get_or_from_slice_get}
use Rattle.cspf_model.specs.declared.request.Request.{Request}
use Rattle.cspf_jobs.specs.DrawnNumbers.{CounterId}
use Rattle.cspf_publish.specs.declared.answer.Answer.{Answer}
use Rattle.cspf_publish.specs.AskerStates.{AskerState}
use Rattle.cspf_work.specs.declared.worker.Reply.{Reply}
use Rattle.cspf_work.specs.declared.worker.Worker.{Worker}
use Rattle.cspf_work.specs.Served.{IsAnswerWithin, IsServed, IsServedAt, AreAnsweredByWorkers, HoldEachOnce, version_at}
use Rattle.cspf_work.specs.Working.{IsDone, HasDone, AreRun, indexes}
use Rattle.cspf_work.specs.Collected.{IsPlaced}

version_at_placed : (list : List Answer) (r : Reply) → IsPlaced list r → version_at list r.index ≡ r.answer.version
version_at_placed list r at = subst (λ (o : Option Answer). Rattle.std.specs.Option.unwrap_or (option_map (λ (a : Answer). a.version) o) 0 ≡ r.answer.version) (sym at) refl

served_at : (requests : List Request) (list : List Answer) (before : AskerState) (w : Worker) (r : Reply)
    → IsDone requests before.batches w.asker.batches r → IsPlaced list r → IsServedAt requests list before.batches w.asker.batches r.index
served_at requests list before w r is at = record {
  later = subst (λ n. length before.batches ≤ n) (sym (version_at_placed list r at)) is.later;
  answer = λ q a here there. subst (λ (x : Answer). IsAnswerWithin w.asker.batches q x) (cc (at, there)) (is.answer q here);
}

get_or-map : {A B : Type 0} (f : A → B) (xs : List A) (i : ℕ) (d : A) → get_or (map f xs) i (f d) ≡ f (get_or xs i d)
get_or-map f xs i d = grind (arith, common_steps)

rising : (list : List Answer) (done : List Reply) → All (IsPlaced list) done → IsNonDecreasingBy (λ (r : Reply). r.answer.version) done → IsNonDecreasingBy (version_at list) (indexes done)
rising list [] placed is = IsNonDecreasingBy-short (version_at list) [] (omega arith)
rising list (r ∷ rs) placed is =
    let done : List Reply = r ∷ rs in
    let version : (i : ℕ) → i < length done → version_at list (get_or (indexes done) i r.index) ≡ (get_or done i r).answer.version =
    λ i less. ap (version_at list) (get_or-map (λ (q : Reply). q.index) done i r) ∙ version_at_placed list (get_or done i r) (placed i r less) in
    IsNonDecreasingBy-from_default (version_at list) (indexes done) r.index
    (λ i j le less.
    let inside : j < length done = (let e = length-map done (λ (q : Reply). q.index) in omega arith) in
    let a = version i (omega arith) in
    let b = version j inside in
    let m = is i j r le inside in
    omega arith)

served_by : (requests : List Request) (list : List Answer) (before : AskerState) (w : Worker)
    → HasDone requests before w → All (IsPlaced list) w.done.items → IsServed requests list before.batches w.asker.batches (indexes w.done.items)
served_by requests list before w is placed = record {
  answers = All-map (IsServedAt requests list before.batches w.asker.batches) (λ (r : Reply). r.index) w.done.items
      (λ k d inside. served_at requests list before w (get_or w.done.items k d) (is.done k d inside) (placed k d inside));
  versions = rising list w.done.items placed is.versions;
}

map-map : {A B C : Type 0} (f : A → B) (g : B → C) (xs : List A) → map g (map f xs) ≡ map (λ x. g (f x)) xs
map-map f g [] = refl
map-map f g (x ∷ xs) = ap (λ l. g (f x) ∷ l) (map-map f g xs)

-- the lists of replies `lists`, the answers `list` and the lists of indexes `drawn` were collected
-- from these workers
pub record AreCollected (workers : List Worker) (lists : List (Vec Reply Global)) (list : List Answer) (drawn : List (Vec ℕ Global)) : Type 0 where
  pub lists_are : lists ≡ map (λ w. w.done) workers
  pub drawn_are : map (λ v. v.items) drawn ≡ map (λ l. indexes l.items) lists
  pub placed : All (λ (l : Vec Reply Global). All (IsPlaced list) l.items) lists

pub drawn_by : (workers : List Worker) (lists : List (Vec Reply Global)) (list : List Answer) (drawn : List (Vec ℕ Global)) → AreCollected workers lists list drawn
    → map (λ (v : Vec ℕ Global). v.items) drawn ≡ map (λ (w : Worker). indexes w.done.items) workers
drawn_by workers lists list drawn is =
    is.drawn_are ∙ ap (map (λ (l : Vec Reply Global). indexes l.items)) is.lists_are ∙ map-map (λ (w : Worker). w.done) (λ (l : Vec Reply Global). indexes l.items) workers

served_place : (counter : CounterId) (requests : List Request) (before : List AskerState) (workers : List Worker) (lists : List (Vec Reply Global)) (list : List Answer) (drawn : List (Vec ℕ Global))
    → AreRun counter requests before workers → AreCollected workers lists list drawn
    → (i : ℕ) (old new : AskerState) (ix : Vec ℕ Global) (o : Option Worker) → slice_get workers i ≡ o
    → slice_get before i ≡ Some old → option_map (λ (w : Worker). w.asker) o ≡ Some new → Some ix.items ≡ option_map (λ (w : Worker). indexes w.done.items) o
    → IsServed requests list old.batches new.batches ix.items
served_place counter requests before workers lists list drawn run is i old new ix (Some w) here at there drew =
    let asker : w.asker ≡ new = cc there in
    let same : ix.items ≡ indexes w.done.items = cc drew in
    let listed : slice_get lists i ≡ Some w.done =
    ap (λ (l : List (Vec Reply Global)). slice_get l i) is.lists_are ∙ slice_get-map (λ (v : Worker). v.done) workers i ∙ ap (option_map (λ (v : Worker). v.done)) here in
    let less = slice_get_within lists i w.done listed in
    let placed : All (IsPlaced list) w.done.items =
    subst (λ (l : Vec Reply Global). All (IsPlaced list) l.items) (get_or_from_slice_get lists i w.done w.done listed) (is.placed i w.done less) in
    subst (λ (k : AskerState). IsServed requests list old.batches k.batches ix.items) asker
    (subst (λ (xs : List ℕ). IsServed requests list old.batches w.asker.batches xs) (sym same)
    (served_by requests list old w (run.each i old w at here).done placed))
served_place counter requests before workers lists list drawn run is i old new ix None here at there drew = absurd (cc there)

pub answered : (counter : CounterId) (requests : List Request) (before : List AskerState) (workers : List Worker) (lists : List (Vec Reply Global)) (list : List Answer) (drawn : List (Vec ℕ Global)) (after : List AskerState)
    → after ≡ map (λ w. w.asker) workers → AreCollected workers lists list drawn → length list ≡ length requests → HoldEachOnce (length requests) drawn
    → AreRun counter requests before workers → AreAnsweredByWorkers requests before after list drawn
answered counter requests before workers lists list drawn after askers is count once run =
    let drew = drawn_by workers lists list drawn is in
    record {
      count = count;
      lists = sym (length-map drawn (λ (v : Vec ℕ Global). v.items)) ∙ ap length drew ∙ length-map workers (λ (w : Worker). indexes w.done.items) ∙ run.count;
      once = once;
      served = λ i old new ix at there drawn_at.
          served_place counter requests before workers lists list drawn run is i old new ix (slice_get workers i) refl at
          (sym (slice_get-map (λ (w : Worker). w.asker) workers i) ∙ ap (λ (l : List AskerState). slice_get l i) (sym askers) ∙ there)
          (sym (ap (option_map (λ (v : Vec ℕ Global). v.items)) drawn_at) ∙ sym (slice_get-map (λ (v : Vec ℕ Global). v.items) drawn i)
          ∙ ap (λ (l : List (List ℕ)). slice_get l i) drew ∙ slice_get-map (λ (w : Worker). indexes w.done.items) workers i);
    }
