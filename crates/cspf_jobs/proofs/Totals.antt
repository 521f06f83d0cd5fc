-- Sums over all seats of a counter: how many numbers have been drawn, and how many draws are left.
-- A seat records the numbers that a worker has drawn, and how often it may still draw.
use Rattle.std.proofs.Common.{◌≡◌, ℕ, zero, suc, ◌+◌, ◌<◌, ◌≤◌, ◌==◌, cond, List, [], ◌∷◌, ◌++◌, length, All, set, get_or, sym, ap, ◌∙◌, arith, sum_by, length-append, subst, flat_map, append-nil}
use Rattle.std.proofs.lemmas.Bool.Decides.{nat_tests}
use Rattle.std.proofs.lemmas.Grind.{flat_map-append}
use Rattle.std.proofs.lemmas.List.Sums.{sum_by-cons, sum_by-append, sum_by_push, sum_by-set, get_or-le-sum_by, count_by-le-length, sum_by-le-sum_by}
use Rattle.std.proofs.Math.Seq.{get_or-append_seam}
use mathlib.Core.Option.{some, some-ne-none, some-injective}
use lib.ListN.{get_elem?}
use Rattle.cspf_jobs.specs.declared.seat_draws.SeatDraws.{SeatDraws}
use Rattle.cspf_jobs.specs.DrawnNumbers.{DrawnNumbers}
use Rattle.cspf_jobs.specs.EachOnce.{times, once_below}

-- if the list `views` of seats (records of draws) has the element `v` at the index `seat`, this
-- index is below the length of the list, and reading the list there gives `v`
pub at_place : (views : List SeatDraws) (seat : ℕ) (v : SeatDraws) → get_elem? views seat ≡ some v → (seat < length views) × ((d : SeatDraws) → get_or views seat d ≡ v)
at_place [] seat v at = absurd (some-ne-none v (sym at))
at_place (u ∷ us) zero v at = (omega arith, λ d. some-injective u v at)
at_place (u ∷ us) (suc seat) v at = (let rest = at_place us seat v at in (omega (arith, rest.0), rest.1))

-- if one seat (a record of draws) in a list is replaced, the sum of `f` over the list loses the
-- value for the old seat and gains the value for the new seat
pub total-set : (f : SeatDraws → ℕ) (views : List SeatDraws) (seat : ℕ) (v w : SeatDraws) → get_elem? views seat ≡ some v → sum_by f (set views seat w) + f v ≡ sum_by f views + f w
total-set f views seat v w at =
    let place = at_place views seat v at in
    ap (λ u. sum_by f (set views seat w) + f u) (sym (place.1 v)) ∙ sum_by-set f views seat w v place.0

-- the value of `f` for one seat (a record of draws) is at most the sum of `f` over all seats
pub total_at : (f : SeatDraws → ℕ) (views : List SeatDraws) (seat : ℕ) (v : SeatDraws) → get_elem? views seat ≡ some v → f v ≤ sum_by f views
total_at f views seat v at =
    let place = at_place views seat v at in
    let same : f (get_or views seat v) ≡ f v = ap f (place.1 v) in
    let least = get_or-le-sum_by f views seat v place.0 in
    omega arith

-- if `f` is at most `g` for each seat (a record of draws), the sum of `f` over all seats except one
-- is at most the sum of `g` over the same seats
pub total_others : (f g : SeatDraws → ℕ) → ((u : SeatDraws) → f u ≤ g u) → (views : List SeatDraws) (seat : ℕ) (v : SeatDraws)
    → get_elem? views seat ≡ some v → sum_by f views + g v ≤ sum_by g views + f v
total_others f g le [] seat v at = absurd (some-ne-none v (sym at))
total_others f g le (u ∷ us) zero v at =
    let here = some-injective u v at in
    omega (arith, ap f here, ap g here, sum_by-cons f u us, sum_by-cons g u us, sum_by-le-sum_by f g us le)
total_others f g le (u ∷ us) (suc seat) v at = omega (arith, le u, sum_by-cons f u us, sum_by-cons g u us, total_others f g le us seat v at)

pub times-append : (x : ℕ) (xs ys : List ℕ) → times x (xs ++ ys) ≡ times x xs + times x ys
times-append x xs ys = sum_by-append (λ y. cond (y == x) 1 0) xs ys

pub times-push : (x : ℕ) (xs : List ℕ) (y : ℕ) → times x (xs ++ y ∷ []) ≡ times x xs + cond (y == x) 1 0
times-push x xs y = sum_by_push (λ z. cond (z == x) 1 0) xs y

pub times-le : (x : ℕ) (xs : List ℕ) → times x xs ≤ length xs
times-le x xs = count_by-le-length (λ y. y == x) xs

pub once_below-more : (x n : ℕ) → once_below (n + 1) x ≡ once_below n x + cond (n == x) 1 0
once_below-more x n = grind (arith, nat_tests)

-- if a list has each number below the bound at most once, and no other number, all its numbers are
-- below the bound
pub all_below : (n : ℕ) (xs : List ℕ) → ((x : ℕ) → times x xs ≤ once_below n x) → All (λ x. x < n) xs
all_below n [] few k d less = absurd (omega arith)
all_below n (y ∷ ys) few zero d less =
    let one = few y in
    let step : times y (y ∷ ys) ≡ cond (y == y) 1 0 + times y ys = sum_by-cons (λ z. cond (z == y) 1 0) y ys in
    grind (arith, nat_tests)
all_below n (y ∷ ys) few (suc k) d less =
    all_below n ys
    (λ x. (let whole = few x in let step : times x (y ∷ ys) ≡ cond (y == x) 1 0 + times x ys = sum_by-cons (λ z. cond (z == x) 1 0) y ys in omega arith))
    k d (omega arith)

-- the element `x`, which follows the elements `before` in a list, has each property that all
-- elements of the list have
pub next_of : {X : Type 0} (P : X → Type 0) (before : List X) (x : X) (left after all : List X) → before ++ left ≡ all → left ≡ x ∷ after → All P all → P x
next_of P before x left after all whole next holds =
    let same : all ≡ before ++ x ∷ after = sym whole ∙ ap (λ l. before ++ l) next in
    let here : All P (before ++ x ∷ after) = subst (All P) same holds in
    subst P (get_or-append_seam before x after x) (here (length before) x (omega (arith, length-append before (x ∷ after))))

-- if a worker is appended to the list of workers, its drawn numbers follow those of all other
-- workers
pub drawn-push : (drawers : List DrawnNumbers) (d : DrawnNumbers) → flat_map (λ u. u.drawn) (drawers ++ d ∷ []) ≡ flat_map (λ u. u.drawn) drawers ++ d.drawn
drawn-push drawers d = flat_map-append (λ (u : DrawnNumbers). u.drawn) drawers (d ∷ []) ∙ ap (λ rest. flat_map (λ (u : DrawnNumbers). u.drawn) drawers ++ rest) (append-nil d.drawn)
