-- Each step on a counter keeps the rule of draws, which is an invariant. From this rule follows
-- which numbers have been drawn in the end.
use Rattle.std.proofs.Common.{◌≡◌, ℕ, ◌+◌, ◌*◌, ◌-◌, ◌%◌, ◌^◌, ◌<◌, ◌≤◌, List, [], ◌∷◌, ◌++◌, length, set, get_or, refl, sym, ap, ◌∙◌, arith, sum_by, length-append, length-set}
use Rattle.std.proofs.lemmas.Bool.Decides.{nat_tests}
use Rattle.std.proofs.lemmas.List.Sums.{sum_by_push}
use mathlib.Core.Option.{some, none, some-injective, some-ne-none}
use lib.ListN.{get_elem?}
use Rattle.atomic_table.specs.Table.{State, Me, step, keeps, Allows, Splits, Joins, opening}
use Rattle.cspf_jobs.specs.declared.limits.TheConstants.{MOST_DRAWERS, MOST_REQUESTS}
use Rattle.cspf_jobs.specs.declared.seat_draws.SeatDraws.{SeatDraws}
use Rattle.cspf_jobs.specs.EachOnce.{HoldsEachOnce, times, once_below}
use Rattle.cspf_jobs.specs.SeatDraws.{all_draws, with_number, one_share_less, one_share, both_seats, spent_seat}
use Rattle.cspf_jobs.specs.DrawRule.{HoldsBetweenDraws, Draws, drawn_word}
use Rattle.cspf_jobs.proofs.Totals.{total-set, total_at, total_others, times-append, times-push, times-le, once_below-more, all_below}

pub opens : (requests : ℕ) → requests ≤ MOST_REQUESTS → HoldsBetweenDraws requests (opening (0 ∷ []) [] (all_draws requests))
opens requests few = record {
  one_word = refl;
  few = few;
  each_once = λ x. grind (arith, nat_tests);
  count = refl;
  draws = omega arith;
}

word_of-set : (words : List ℕ) (n : ℕ) → length words ≡ 1 → get_or (set words 0 n) 0 0 ≡ n
word_of-set [] n one = absurd (omega arith)
word_of-set (w ∷ ws) n one = refl

pub draws : (requests slots id : ℕ) (me : Me ℕ SeatDraws) → 0 < me.0.left
    → Allows (HoldsBetweenDraws requests) slots id me 0 (λ w. (w + 1) % 2 ^ 64) (Draws (step slots 0 1 0 none) me)
draws requests slots id me some_left s holds homes at small =
    let v = me.0 in
    let found = drawn_word s in
    let w : SeatDraws = with_number v found in
    let left : v.left ≤ sum_by (λ (u : SeatDraws). u.left) s.views = total_at (λ u. u.left) s.views id v at in
    let next : (found + 1) % 2 ^ 64 ≡ found + 1 = (let all = holds.draws in let few = holds.few in omega arith) in
    let word : get_or (set s.words 0 ((found + 1) % 2 ^ 64)) 0 0 ≡ found + 1 = word_of-set s.words ((found + 1) % 2 ^ 64) holds.one_word ∙ next in
    let own : (x : ℕ) → times x v.drawn ≤ once_below found x = λ x. (let part = total_at (λ u. times x u.drawn) s.views id v at in let once = holds.each_once x in omega arith) in (
      w,
      keeps,
      tt,
      record {
        one_word = length-set s.words 0 ((found + 1) % 2 ^ 64) ∙ holds.one_word;
        few = holds.few;
        each_once = λ x.
            (let total = total-set (λ u. times x u.drawn) s.views id v w at in let once = holds.each_once x in let more = times-push x v.drawn found in let below = once_below-more x found in let now = ap (λ n. once_below n x) word in omega arith);
        count = (let total = total-set (λ u. length u.drawn) s.views id v w at in let count = holds.count in let more = length-append v.drawn (found ∷ []) in omega arith);
        draws = (let total = total-set (λ u. u.left) s.views id v w at in let all = holds.draws in omega arith);
      },
      record { seat = refl; above = all_below found v.drawn own; slots = refl },
    )

total-split : (f : SeatDraws → ℕ) (views : List SeatDraws) (id : ℕ) (v stays goes : SeatDraws) → get_elem? views id ≡ some v
    → f stays + f goes ≡ f v → sum_by f (set views id stays ++ goes ∷ []) ≡ sum_by f views
total-split f views id v stays goes at same =
    let total = total-set f views id v stays at in
    let more = sum_by_push f (set views id stays) goes in
    omega arith

pub splits : (requests id : ℕ) (v : SeatDraws) → v.share ≤ v.left → Splits (HoldsBetweenDraws requests) id v (one_share_less v) (one_share v)
splits requests id v enough s holds at = record {
  one_word = holds.one_word;
  few = holds.few;
  each_once = λ x. total-split (λ u. times x u.drawn) s.views id v (one_share_less v) (one_share v) at (omega arith) ∙ holds.each_once x;
  count = total-split (λ u. length u.drawn) s.views id v (one_share_less v) (one_share v) at (omega arith) ∙ holds.count;
  draws = ap (λ n. drawn_word s + n) (total-split (λ u. u.left) s.views id v (one_share_less v) (one_share v) at (omega arith)) ∙ holds.draws;
}

total-join : (f : SeatDraws → ℕ) (views : List SeatDraws) (id other : ℕ) (v w stays goes : SeatDraws) → get_elem? views id ≡ some v → get_elem? (set views id stays) other ≡ some w
    → f stays + f goes ≡ f v + f w → sum_by f (set (set views id stays) other goes) ≡ sum_by f views
total-join f views id other v w stays goes at there same =
    let first = total-set f views id v stays at in
    let second = total-set f (set views id stays) other w goes there in
    omega arith

pub joins : (requests id : ℕ) (v : SeatDraws) (other : ℕ) (w : SeatDraws) → Joins (HoldsBetweenDraws requests) id v other w (both_seats v w) spent_seat
joins requests id v other w s holds at apart there = record {
  one_word = holds.one_word;
  few = holds.few;
  each_once = λ x.
      total-join (λ u. times x u.drawn) s.views id other v w (both_seats v w) spent_seat at there (let both = times-append x v.drawn w.drawn in omega arith) ∙ holds.each_once x;
  count = total-join (λ u. length u.drawn) s.views id other v w (both_seats v w) spent_seat at there (omega (arith, length-append v.drawn w.drawn)) ∙ holds.count;
  draws = ap (λ n. drawn_word s + n) (total-join (λ u. u.left) s.views id other v w (both_seats v w) spent_seat at there (omega arith)) ∙ holds.draws;
}

-- If one seat (a record of draws) has all draws of the counter, those that have been made and those
-- that are left, its list of drawn numbers has each number below the counter's value once, and no
-- other number.
pub all_once : (requests : ℕ) (s : State ℕ SeatDraws) (id : ℕ) (v : SeatDraws) → HoldsBetweenDraws requests s → get_elem? s.views id ≡ some v
    → length v.drawn + v.left ≡ MOST_DRAWERS * (requests + 1) → HoldsEachOnce (drawn_word s) v.drawn
all_once requests s id v holds at all x =
    let others = total_others (λ u. times x u.drawn) (λ u. length u.drawn) (λ u. times-le x u.drawn) s.views id v at in
    let part = total_at (λ u. times x u.drawn) s.views id v at in
    let drawn = total_at (λ u. length u.drawn) s.views id v at in
    let left = total_at (λ u. u.left) s.views id v at in
    let once = holds.each_once x in
    let count = holds.count in
    let draws = holds.draws in
    omega arith

-- the first element in the table of a counter is the counter's value
pub word_at : (words : List ℕ) (word : ℕ) → get_elem? words 0 ≡ some word → get_or words 0 0 ≡ word
word_at [] word at = absurd (some-ne-none word (sym at))
word_at (w ∷ ws) word at = some-injective w word at

-- if each worker has `share` draws, `shares + 1` workers have `share` draws more than `shares`
-- workers
pub shares-more : (share shares : ℕ) → share * (shares + 1) ≡ share * shares + share
shares-more share shares = grind arith

-- if each worker has `share` draws and there is a worker, `shares` workers have `share` draws more
-- than `shares - 1` workers
pub shares-one_less : (share shares : ℕ) → 0 < shares → share * shares ≡ share * (shares - 1) + share
shares-one_less share shares more = ap (λ n. share * n) (let e : shares ≡ (shares - 1) + 1 = omega arith in e) ∙ shares-more share (shares - 1)
