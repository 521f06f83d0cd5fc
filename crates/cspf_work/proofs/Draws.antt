-- Workers draw the indexes of requests from a counter. If each worker draws until it gets a number
-- that isn't the index of a request, each request is answered exactly once.
use Rattle.std.proofs.Common.{◌≡◌, ℕ, zero, suc, ◌+◌, ◌<◌, ◌≤◌, cond, eqb, List, [], ◌∷◌, ◌++◌, length, map, All, IsNone, Vec, get_or, inl, inr, refl, sym, ap, ◌∙◌, subst, arith, length-append, rules}
use Rattle.std.proofs.lemmas.Grind.{common_steps}
use Rattle.std.specs.Global.{Global}
use Rattle.std.specs.List.Sorted.{IsStrictlyIncreasing}
use Rattle.std.proofs.lemmas.Bool.{cases_lt}
use Rattle.std.proofs.lemmas.Bool.Decides.{nat_tests}
use Rattle.std.proofs.lemmas.List.{get_or_append_left}
use Rattle.std.proofs.lemmas.List.Elements.{All-nil, All-cons, All-head, All-tail, All-map}
use Rattle.std.proofs.lemmas.List.Sums.{sum_by-cons}
use Rattle.cspf_model.specs.declared.request.Request.{Request}
use Rattle.cspf_jobs.specs.DrawnNumbers.{CounterId, DrawnNumbers}
use Rattle.cspf_jobs.specs.EachOnce.{HoldsEachOnce, once_below, times}
use Rattle.cspf_publish.specs.AskerStates.{AskerState}
use Rattle.cspf_work.specs.declared.serve_error.ServeError.{ServeError}
use Rattle.cspf_work.specs.declared.worker.Reply.{Reply}
use Rattle.cspf_work.specs.declared.worker.Worker.{Worker}
use Rattle.cspf_work.specs.declared.serve_error.ServeError.TheVariants.{Memory}
use Rattle.cspf_work.specs.Working.{AreRun, HasDrawnAll, all_drawn, indexes}
use Rattle.cspf_work.specs.Collected.{IsCollectError, times_in}
use Rattle.cspf_work.proofs.Filling.{times-append, times-push}
use Rattle.cspf_work.proofs.Running.{run_drawn, run_inside}

-- in a strictly increasing list, each number is at least its index in the list
at_least : (xs : List ℕ) → IsStrictlyIncreasing xs → (k : ℕ) → k < length xs → k ≤ get_or xs k 0
at_least xs rising zero less = omega arith
at_least xs rising (suc k) less =
    let before = at_least xs rising k (omega arith) in
    let step = rising k (omega arith) in
    let same : get_or xs (suc k) 0 ≡ get_or xs (k + 1) 0 = ap (λ n. get_or xs n 0) (let e : suc k ≡ k + 1 = omega arith in e) in
    omega arith

-- a strictly increasing list of `bound + 1` numbers has a number that isn't below `bound`
pub too_many : (xs : List ℕ) (bound : ℕ) → IsStrictlyIncreasing xs → All (λ x. x < bound) xs → length xs ≡ bound + 1 → ⊥
too_many xs bound rising below long = search (rules, at_least)

-- if the index of each reply is below `bound`, each element of the list of these indexes is below
-- `bound`
pub below_indexes : (bound : ℕ) (done : List Reply) → All (λ r. r.index < bound) done → All (λ x. x < bound) (indexes done)
below_indexes bound done inside = All-map (λ x. x < bound) (λ (r : Reply). r.index) done inside

-- a prefix of a strictly increasing list is strictly increasing
rising_front : (xs ys : List ℕ) → IsStrictlyIncreasing (xs ++ ys) → IsStrictlyIncreasing xs
rising_front xs ys rising = search (rules, get_or_append_left, length-append)

-- if all elements of a list are below `bound`, no number from `bound` on is in the list
times-above : (xs : List ℕ) (bound x : ℕ) → All (λ y. y < bound) xs → bound ≤ x → times x xs ≡ 0
times-above [] bound x below above = refl
times-above (y ∷ ys) bound x below above =
    let head : y < bound = All-head (λ z. z < bound) y ys below in
    let rest = times-above ys bound x (All-tail (λ z. z < bound) y ys below) above in
    let step : times x (y ∷ ys) ≡ cond (eqb y x) 1 0 + times x ys = sum_by-cons (λ z. cond (eqb z x) 1 0) y ys in
    grind (arith, nat_tests)

-- a worker drew until it got a number that isn't the index of a request, and each of its replies is
-- to a request
pub record IsDrawnOut (bound : ℕ) (w : Worker) : Type 0 where
  pub inside : All (λ r. r.index < bound) w.done.items
  pub drawn : HasDrawnAll bound w

-- if no worker had a fault, each worker drew until it got a number that isn't the index of a
-- request
pub drawn_out : (id : CounterId) (requests : List Request) (before : List AskerState) (workers : List Worker) → AreRun id requests before workers
    → All (λ (w : Worker). IsNone w.fault) workers → All (IsDrawnOut (length requests)) workers
drawn_out id requests before workers run none = search (rules, run_drawn, run_inside)

-- the number of times that a worker answered a request is the number of times that it drew the
-- request's index
times-drawn : (bound : ℕ) (w : Worker) → IsDrawnOut bound w → (x : ℕ) → x < bound → times x w.drawer.drawn ≡ times x (indexes w.done.items)
times-drawn bound w is x less = grind (arith, common_steps, times-push)

times-all_drawn : (bound : ℕ) (workers : List Worker) → All (IsDrawnOut bound) workers → (x : ℕ) → x < bound → times x (all_drawn workers) ≡ times_in x (map (λ (w : Worker). w.done) workers)
times-all_drawn bound [] all x less = refl
times-all_drawn bound (w ∷ ws) all x less =
    let here = times-drawn bound w (All-head (IsDrawnOut bound) w ws all) x less in
    let rest = times-all_drawn bound ws (All-tail (IsDrawnOut bound) w ws all) x less in
    let parts = times-append x w.drawer.drawn (all_drawn ws) in
    let sum = sum_by-cons (λ (l : Vec Reply Global). times x (indexes l.items)) w.done (map (λ (v : Worker). v.done) ws) in
    omega arith

times_in-past : (bound : ℕ) (workers : List Worker) → All (IsDrawnOut bound) workers → (x : ℕ) → bound ≤ x → times_in x (map (λ (w : Worker). w.done) workers) ≡ 0
times_in-past bound [] all x past = refl
times_in-past bound (w ∷ ws) all x past =
    let here = times-above (indexes w.done.items) bound x (below_indexes bound w.done.items (All-head (IsDrawnOut bound) w ws all).inside) past in
    let rest = times_in-past bound ws (All-tail (IsDrawnOut bound) w ws all) x past in
    let sum = sum_by-cons (λ (l : Vec Reply Global). times x (indexes l.items)) w.done (map (λ (v : Worker). v.done) ws) in
    omega arith

-- The last value of the counter, `word`, is above each number that a worker drew. The last number
-- of each worker is at least `bound`. So `word` is above `bound`.
word_past : (bound word : ℕ) (workers : List Worker) → 0 < length workers → All (IsDrawnOut bound) workers → HoldsEachOnce word (all_drawn workers) → bound < word
word_past bound word [] some all once = absurd (omega arith)
word_past bound word (w ∷ ws) some all once =
    let is = All-head (IsDrawnOut bound) w ws all in
    let last = is.drawn.0 in
    let past = is.drawn.1 in
    let drew = ap (times last) is.drawn.2 ∙ times-push last (indexes w.done.items) last in
    let parts = times-append last w.drawer.drawn (all_drawn ws) in
    let here = once last in
    grind (arith, nat_tests)

-- together the workers answered each request exactly once
pub drawn_once : (bound word : ℕ) (workers : List Worker) → 0 < length workers → All (IsDrawnOut bound) workers → HoldsEachOnce word (all_drawn workers)
    → (x : ℕ) → times_in x (map (λ (w : Worker). w.done) workers) ≡ once_below bound x
drawn_once bound word workers some all once x = elim (cases_lt x bound) [
  | inl less ↦
      let same = times-all_drawn bound workers all x less in
      let here = once x in
      let word_is = word_past bound word workers some all once in
      grind (arith, nat_tests)
  | inr past ↦ let none = times_in-past bound workers all x past in grind (arith, nat_tests)
]

-- each request has exactly one answer, so the only error of collecting the answers is refused
-- memory
pub only_memory : (bound word : ℕ) (workers : List Worker) (lists : List (Vec Reply Global)) (e : ServeError) → 0 < length workers → All (IsDrawnOut bound) workers
    → HoldsEachOnce word (all_drawn workers) → lists ≡ map (λ w. w.done) workers → IsCollectError bound lists e → e ≡ Memory
only_memory bound word workers lists e some all once same (inl memory) = memory
only_memory bound word workers lists e some all once same (inr (inl missing)) =
    let here = ap (times_in missing.0) same ∙ drawn_once bound word workers some all once missing.0 in
    let inside = missing.2 in
    let never = missing.3 in
    absurd (grind (arith, nat_tests))
only_memory bound word workers lists e some all once same (inr (inr twice)) =
    let here = ap (times_in twice.0) same ∙ drawn_once bound word workers some all once twice.0 in
    let more = twice.2 in
    absurd (grind (arith, nat_tests))

-- each worker answered requests in the order of their indexes
pub rising_lists : (bound : ℕ) (drawn : List (Vec ℕ Global)) (workers : List Worker) → map (λ (v : Vec ℕ Global). v.items) drawn ≡ map (λ (w : Worker). indexes w.done.items) workers
    → All (IsDrawnOut bound) workers → All (λ (d : DrawnNumbers). IsStrictlyIncreasing d.drawn) (map (λ (w : Worker). w.drawer) workers)
    → All (λ (v : Vec ℕ Global). IsStrictlyIncreasing v.items) drawn
rising_lists bound [] workers same all rising = All-nil (λ (v : Vec ℕ Global). IsStrictlyIncreasing v.items)
rising_lists bound (v ∷ vs) [] same all rising = absurd (cc same)
rising_lists bound (v ∷ vs) (w ∷ ws) same all rising =
    let head : v.items ≡ indexes w.done.items = cc same in
    let tail : map (λ (u : Vec ℕ Global). u.items) vs ≡ map (λ (u : Worker). indexes u.done.items) ws = cc same in
    let is = All-head (IsDrawnOut bound) w ws all in
    let drawers : List DrawnNumbers = map (λ (u : Worker). u.drawer) ws in
    let drew : IsStrictlyIncreasing w.drawer.drawn = All-head (λ (d : DrawnNumbers). IsStrictlyIncreasing d.drawn) w.drawer drawers rising in
    let front : IsStrictlyIncreasing (indexes w.done.items) = rising_front (indexes w.done.items) (is.drawn.0 ∷ []) (subst IsStrictlyIncreasing is.drawn.2 drew) in
    All-cons (λ (u : Vec ℕ Global). IsStrictlyIncreasing u.items) v vs (subst IsStrictlyIncreasing (sym head) front)
    (rising_lists bound vs ws tail (All-tail (IsDrawnOut bound) w ws all) (All-tail (λ (d : DrawnNumbers). IsStrictlyIncreasing d.drawn) w.drawer drawers rising))
