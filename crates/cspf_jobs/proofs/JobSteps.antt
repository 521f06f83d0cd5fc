-- Facts about all jobs of a run. The proofs add the result of one more thread at a time.
use Rattle.std.proofs.Common.{◌≡◌, suc, ◌<◌, ◌≤◌, ◌^◌, List, [], ◌∷◌, ◌++◌, length, Result, Ok, Err, MatchResult, IsOkAnd, refl, sym, ap, subst, ◌∙◌, arith, Global}
use Rattle.std.proofs.Math.Nat.{ℕ_set}
use Rattle.std.specs.Global.{Vec}
use Rattle.std.specs.List.{AllZip}
use mathlib.Core.HLevel.{is_prop→PathP, ×_prop}
use native.Mathlib.Bridge.{le_prop}
use Rattle.cspf_jobs.specs.Jobs.{AreDone, HaveEnded, IsPushed}
use Rattle.cspf_jobs.specs.declared.word.NoThread.{NoThread}

one_heap : (a b : Global) → a ≡ b
one_heap a b = refl

-- Two vectors with the same address, the same capacity and the same elements are equal.
vec_same : {X : Type 0} (v w : Vec X) → v.ptr ≡ w.ptr → v.cap ≡ w.cap → v.items ≡ w.items → v ≡ w
vec_same v w p c i =
    let l : v.len ≡ w.len = v.ok.0 ∙ ap length i ∙ sym w.ok.0 in
    λ k. record {
      ptr = p k;
      len = l k;
      cap = c k;
      alloc = one_heap v.alloc w.alloc k;
      items = i k;
      ok = is_prop→PathP (λ j. (l j ≡ length (i j)) × (l j ≤ c j)) (λ j. ×_prop (ℕ_set (l j) (length (i j))) le_prop) v.ok w.ok k;
      small = is_prop→PathP (λ j. c j < 2 ^ 63) (λ j. le_prop) v.small w.small k;
    }

-- A relation between two lists, element by element, holds of the last pair, and of the pairs before
-- it.
pub zip_front : {A B : Type 0} (R : A → B → Type 0) (xs : List A) (ys : List B) (x : A) (y : B) → AllZip R (xs ++ x ∷ []) (ys ++ y ∷ []) → AllZip R xs ys × R x y
zip_front R [] [] x y all = (tt, all.0)
zip_front R [] (b ∷ []) x y all = absurd all.1
zip_front R [] (b ∷ c ∷ ys) x y all = absurd all.1
zip_front R (a ∷ []) [] x y all = absurd all.1
zip_front R (a ∷ c ∷ xs) [] x y all = absurd all.1
zip_front R (a ∷ xs) (b ∷ ys) x y all = let rest = zip_front R xs ys x y all.1 in ((all.0, rest.0), rest.1)

-- If some jobs were done by their workers, and one more job was done by its worker, then all these
-- jobs were done.
done_push : {W J O : Type 0} (done : W → J → O → Type 0) (ws : List W) (js : List J) (os : List O) (w : W) (j : J) (o : O) → AreDone done ws js os → done w j o
    → AreDone done (ws ++ w ∷ []) (js ++ j ∷ []) (os ++ o ∷ [])
done_push done [] [] [] w j o all one = (one, tt)
done_push done [] [] (p ∷ os) w j o all one = absurd all
done_push done [] (k ∷ js) os w j o all one = absurd all
done_push done (v ∷ ws) [] os w j o all one = absurd all
done_push done (v ∷ ws) (k ∷ js) [] w j o all one = absurd all
done_push done (v ∷ ws) (k ∷ js) (p ∷ os) w j o all one = (all.0, done_push done ws js os w j o all.1 one)

pub done_count : {W J O : Type 0} (done : W → J → O → Type 0) (ws : List W) (js : List J) (os : List O) → AreDone done ws js os → length os ≡ length js
done_count done [] [] [] all = refl
done_count done [] [] (p ∷ os) all = absurd all
done_count done [] (k ∷ js) os all = absurd all
done_count done (v ∷ ws) [] os all = absurd all
done_count done (v ∷ ws) (k ∷ js) [] all = absurd all
done_count done (v ∷ ws) (k ∷ js) (p ∷ os) all = ap suc (done_count done ws js os all.1)

none_done : {W J O : Type 0} (done : W → J → O → Type 0) (Ready : W → J → Type 0) (ws : List W) (js : List J) → length js ≡ 0 → AllZip Ready ws js → AreDone done ws js []
none_done done Ready [] [] none all = tt
none_done done Ready (w ∷ ws) [] none all = absurd all
none_done done Ready ws (j ∷ js) none all = absurd (omega (arith, none))

module _ {G W J O M P : Type 0} (done : W → J → O → Type 0) (last_done : M → Unit {0} → P → Type 0) where
  -- The result of a thread: the output of its job if the decision `said` is that the jobs begin,
  -- and the job itself otherwise.
  abbrev Ends : Result G NoThread → W → J → Result O J → Type 0
  Ends said w j ended = MatchResult said (λ go. IsOkAnd ended (done w j)) (λ not. ended ≡ Err j)

  -- There are no jobs. The work of the calling thread was done if the decision is that the jobs
  -- begin, and is unchanged otherwise. Then `HaveEnded` holds.
  pub gone_none : (Ready : W → J → Type 0) (workers : List W) (jobs : Vec J) (outputs : List O) (last : M) (said : Result G NoThread) (result : Result P M)
      → jobs.len ≡ 0 → outputs ≡ [] → AllZip Ready workers jobs.items
      → MatchResult said (λ go. IsOkAnd result (last_done last tt)) (λ not. result ≡ Err last)
      → HaveEnded done last_done workers jobs outputs last jobs said result
  gone_none Ready workers jobs outputs last (Ok go) result none no_output ready ends =
      (rw no_output (none_done done Ready workers jobs.items (sym jobs.ok.0 ∙ none) ready), ends)
  gone_none Ready workers jobs outputs last (Err not) result none no_output ready ends = (refl, ends)

  -- If the thread ended with an output, the list of outputs has capacity for the output. If the
  -- thread ended with its job, the list of jobs that weren't begun has capacity for the job.
  pub keeps : (workers : List W) (jobs left : Vec J) (outputs : Vec O) (last : M) (w : W) (j : J) (said : Result G NoThread) (result : Result P M) (ended : Result O J)
      → HaveEnded done last_done workers jobs outputs.items last left said result → Ends said w j ended
      → jobs.len < jobs.cap → jobs.len < outputs.cap
      → MatchResult ended (λ o. outputs.len < outputs.cap) (λ k. left.len < left.cap)
  keeps workers jobs left outputs last w j (Ok go) result (Ok o) gone ends more room =
      let many = done_count done workers jobs.items outputs.items gone.0 in
      let outs = outputs.ok.0 in let ins = jobs.ok.0 in omega arith
  keeps workers jobs left outputs last w j (Ok go) result (Err k) gone ends more room = absurd ends
  keeps workers jobs left outputs last w j (Err not) result ended gone ends more room =
      subst (λ r. MatchResult r (λ o. outputs.len < outputs.cap) (λ k. left.len < left.cap)) (sym ends) (subst (λ (v : Vec J). v.len < v.cap) (sym gone.0) more)

  -- The decision says whether the jobs begin. The earlier jobs, the calling thread's work and the
  -- last job have ended according to it. If the jobs began, the last job's output is appended to
  -- the outputs. If not, this job itself is appended to the jobs that weren't begun. Then
  -- `HaveEnded` holds of all jobs.
  pub gone_more : (workers front : List W) (jobs before left kept : Vec J) (outputs more : Vec O) (last : M) (w : W) (j : J) (said : Result G NoThread) (result : Result P M) (ended : Result O J)
      → HaveEnded done last_done front before outputs.items last left said result → Ends said w j ended
      → workers ≡ front ++ w ∷ [] → jobs.items ≡ before.items ++ j ∷ [] → before.ptr ≡ jobs.ptr → before.cap ≡ jobs.cap
      → MatchResult ended (λ o. kept ≡ left) (IsPushed left kept) → MatchResult ended (IsPushed outputs more) (λ k. more ≡ outputs)
      → HaveEnded done last_done workers jobs more.items last kept said result
  gone_more workers front jobs before left kept outputs more last w j (Ok go) result (Ok o) gone ends ws js place cap back pushed =
      (rw (ws, js, pushed.items) (done_push done front before.items outputs.items w j o gone.0 ends), gone.1)
  gone_more workers front jobs before left kept outputs more last w j (Ok go) result (Err k) gone ends ws js place cap back pushed = absurd ends
  gone_more workers front jobs before left kept outputs more last w j (Err not) result ended gone ends ws js place cap back pushed =
      let now : IsPushed left kept j = subst (λ r. MatchResult r (λ o. kept ≡ left) (IsPushed left kept)) ends back in
      let was = gone.0 in (
        vec_same kept jobs (now.place ∙ ap (λ (v : Vec J). v.ptr) was ∙ place) (now.capacity ∙ ap (λ (v : Vec J). v.cap) was ∙ cap)
            (now.items ∙ ap (λ (v : Vec J). v.items ++ j ∷ []) was ∙ sym js),
        gone.1,
      )
