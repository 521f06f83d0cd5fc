-- The workers' answers are stored in the slots of their requests.
use Rattle.std.proofs.Common.{◌≡◌, ◌≢◌, ℕ, zero, suc, ◌+◌, ◌<◌, ◌⊎◌, true, false, cond, eqb, List, [], ◌∷◌, ◌++◌, length, map, Option, Some, None, get_or, All, Vec, inl, inr, refl, sym, ap, ◌∙◌, subst, arith, rules, IsSome, is_some, append-nil, append_assoc, slice_get, slice_set, sum_by, flat_map}
use Rattle.std.specs.Global.{Global}
use Rattle.std.specs.Option.{option_map}
use Rattle.std.proofs.lemmas.Bool.{cases_Bool, cases_lt, eqb-true, eqb-false, ne_eqb, false≢true}
use Rattle.std.proofs.lemmas.Bool.Decides.{nat_tests}
use Rattle.std.proofs.lemmas.List.Elements.{All-push, All-nil, All-cons, All-head, All-tail}
use Rattle.std.proofs.lemmas.Grind.{flat_map-append, common_steps}
use Rattle.std.proofs.lemmas.List.{map-append}
use Rattle.std.proofs.lemmas.List.Sums.{sum_by-append, sum_by-cons, sum_by_push}
use Rattle.std.proofs.lemmas.Option.{slice_get_within, slice_get-map, slice_get_read}
use Rattle.cspf_publish.specs.declared.answer.Answer.{Answer}
use Rattle.cspf_work.specs.declared.serve_error.ServeError.{ServeError}
use Rattle.cspf_work.specs.declared.serve_error.ServeError.TheVariants.{Memory, Missing, Twice}
use Rattle.cspf_work.specs.declared.worker.Reply.{Reply}
use Rattle.cspf_jobs.specs.EachOnce.{times, once_below}
use Rattle.cspf_work.specs.Working.{indexes}
use Rattle.cspf_work.specs.Collected.{AreFilled, IsPlaced, IsTwice, IsCollectError, times_in}

slice_get-set_same : {X : Type 0} (xs : List X) (i : ℕ) (v : X) → i < length xs → slice_get (slice_set xs i v) i ≡ Some v
slice_get-set_same [] i v less = absurd (omega arith)
slice_get-set_same (x ∷ xs) zero v less = refl
slice_get-set_same (x ∷ xs) (suc i) v less = slice_get-set_same xs i v (omega arith)

slice_get-set_other : {X : Type 0} (xs : List X) (i j : ℕ) (v : X) → i ≢ j → slice_get (slice_set xs i v) j ≡ slice_get xs j
slice_get-set_other (x ∷ xs) zero zero v apart = absurd (apart refl)
slice_get-set_other (x ∷ xs) (suc i) (suc j) v apart = slice_get-set_other xs i j v (λ e. apart (ap suc e))
slice_get-set_other xs i j v apart = refl

pub indexes-append : (xs ys : List Reply) → indexes (xs ++ ys) ≡ indexes xs ++ indexes ys
indexes-append xs ys = grind (arith, common_steps)

pub times-append : (x : ℕ) (xs ys : List ℕ) → times x (xs ++ ys) ≡ times x xs + times x ys
times-append x xs ys = sum_by-append (λ y. cond (eqb y x) 1 0) xs ys

-- the number `y` is added at the end of a list: it is in the list one more time, and each other
-- number as often as before
pub times-push : (x : ℕ) (xs : List ℕ) (y : ℕ) → times x (xs ++ y ∷ []) ≡ times x xs + cond (eqb y x) 1 0
times-push x xs y = sum_by_push (λ z. cond (eqb z x) 1 0) xs y

times-indexes-push : (x : ℕ) (done : List Reply) (r : Reply) → times x (indexes (done ++ r ∷ [])) ≡ times x (indexes done) + cond (eqb r.index x) 1 0
times-indexes-push x done r = ap (times x) (indexes-append done (r ∷ [])) ∙ times-push x (indexes done) r.index

-- if the slot of a reply is empty and the reply's answer is stored in it, the slots have the
-- answers of the earlier replies and of this reply
pub filled_more : (slots : List (Option Answer)) (done : List Reply) (r : Reply)
    → slice_get slots r.index ≡ Some None → AreFilled slots done → AreFilled (slice_set slots r.index (Some r.answer)) (done ++ r ∷ [])
filled_more slots done r free is = grind (arith, common_steps, All-push, cases_Bool, eqb-false, eqb-true, ne_eqb, slice_get-set_other, slice_get-set_same, slice_get_within)

-- if the slot of a reply already has an answer, two replies have this reply's index
pub filled_twice : (slots : List (Option Answer)) (done : List Reply) (r : Reply) (a : Answer)
    → slice_get slots r.index ≡ Some (Some a) → AreFilled slots done → IsTwice (done ++ r ∷ []) (Twice r.index)
filled_twice slots done r a at is = grind (arith, common_steps, times-indexes-push)

pub twice_more : (done more : List Reply) (e : ServeError) → IsTwice done e → IsTwice (done ++ more) e
twice_more done more e t = grind (arith, common_steps, indexes-append, times-append)

-- if a test finds an answer in the slot of a reply, two replies have this reply's index
pub put_twice : (slots : List (Option Answer)) (done : List Reply) (r : Reply) (o : Option Answer)
    → o ≡ get_or slots r.index o → r.index < length slots → is_some o ≡ true → AreFilled slots done → IsTwice (done ++ r ∷ []) (Twice r.index)
put_twice slots done r (Some a) at inside full is = filled_twice slots done r a (slice_get_read slots (length slots) r.index (Some a) refl inside at) is
put_twice slots done r None at inside full is = absurd (false≢true full)

-- if a test finds the slot of a reply empty and the reply's answer is stored in it, the slots also
-- have the answer of this reply
pub put_free : (slots : List (Option Answer)) (done : List Reply) (r : Reply) (o : Option Answer)
    → o ≡ get_or slots r.index o → r.index < length slots → is_some o ≡ false → AreFilled slots done → AreFilled (slice_set slots r.index (Some r.answer)) (done ++ r ∷ [])
put_free slots done r (Some a) at inside free is = absurd (false≢true (sym free))
put_free slots done r None at inside free is = filled_more slots done r (slice_get_read slots (length slots) r.index None refl inside at) is

-- in `xs ++ y ∷ ys` the element at the index `length xs` is `y`
pub slice_get-seam : {X : Type 0} (xs : List X) (y : X) (ys : List X) → slice_get (xs ++ y ∷ ys) (length xs) ≡ Some y
slice_get-seam [] y ys = refl
slice_get-seam (x ∷ xs) y ys = slice_get-seam xs y ys

from_some : (o : Option Answer) (a : Answer) → option_map (λ (b : Answer). Some b) o ≡ Some (Some a) → o ≡ Some a
from_some o a e = search rules

-- if each slot has an answer, the list of these answers has each reply's answer at the reply's
-- index
pub filled_placed : (slots : List (Option Answer)) (list : List Answer) (done : List Reply)
    → map (λ a. Some a) list ≡ slots → AreFilled slots done → All (IsPlaced list) done
filled_placed slots list done same is = search (rules, from_some, slice_get-map)

none_inside : (o : Option Answer) → o ≡ None → IsSome o → ⊥
none_inside o e s = search rules

slice_get-inside : (list : List Answer) (x : ℕ) → x < length list → IsSome (slice_get list x)
slice_get-inside [] x less = absurd (omega arith)
slice_get-inside (a ∷ rest) zero less = refl
slice_get-inside (a ∷ rest) (suc x) less = slice_get-inside rest x (omega arith)

-- if each slot has an answer, there is exactly one reply for each index
pub filled_once : (slots : List (Option Answer)) (list : List Answer) (done : List Reply)
    → map (λ a. Some a) list ≡ slots → AreFilled slots done → (x : ℕ) → times x (indexes done) ≡ once_below (length list) x
filled_once slots list done same is x =
    let at : slice_get slots x ≡ option_map (λ (b : Answer). Some b) (slice_get list x) =
    ap (λ (l : List (Option Answer)). slice_get l x) (sym same) ∙ slice_get-map (λ (b : Answer). Some b) list x in
    by_place (slice_get list x) refl at
  where
    by_place : (o : Option Answer) → slice_get list x ≡ o → slice_get slots x ≡ option_map (λ (b : Answer). Some b) (slice_get list x) → times x (indexes done) ≡ once_below (length list) x
    by_place (Some a) here at =
        let less = slice_get_within list x a here in
        let one = is.some x a (at ∙ ap (option_map (λ (b : Answer). Some b)) here) in
        grind (arith, nat_tests)
    by_place None here at = elim (cases_lt x (length list)) [
      | inl less ↦ absurd (none_inside (slice_get list x) here (slice_get-inside list x less))
      | inr past ↦ let none = is.past x (at ∙ ap (option_map (λ (b : Answer). Some b)) here) in grind (arith, nat_tests)
    ]

-- the replies of all lists, in the order of the lists
abbrev pub replies : List (Vec Reply Global) → List Reply
replies lists = flat_map (λ (l : Vec Reply Global). l.items) lists

all_front : {X : Type 0} (P : X → Type 0) (xs ys : List X) → All P (xs ++ ys) → All P xs
all_front P [] ys all = All-nil P
all_front P (x ∷ xs) ys all = All-cons P x xs (All-head P x (xs ++ ys) all) (all_front P xs ys (All-tail P x (xs ++ ys) all))

all_back : {X : Type 0} (P : X → Type 0) (xs ys : List X) → All P (xs ++ ys) → All P ys
all_back P [] ys all = all
all_back P (x ∷ xs) ys all = all_back P xs ys (All-tail P x (xs ++ ys) all)

-- a fact about all replies holds of the replies of each list
pub all_lists : (P : Reply → Type 0) (lists : List (Vec Reply Global)) → All P (replies lists) → All (λ (l : Vec Reply Global). All P l.items) lists
all_lists P [] all = All-nil (λ (l : Vec Reply Global). All P l.items)
all_lists P (l ∷ ls) all =
    All-cons (λ (v : Vec Reply Global). All P v.items) l ls (all_front P l.items (replies ls) all) (all_lists P ls (all_back P l.items (replies ls) all))

-- the count of an index in all lists together is the sum of its counts in the single lists
pub times-replies : (x : ℕ) (lists : List (Vec Reply Global)) → times x (indexes (replies lists)) ≡ times_in x lists
times-replies x [] = refl
times-replies x (l ∷ ls) =
    ap (times x) (indexes-append l.items (replies ls)) ∙ times-append x (indexes l.items) (indexes (replies ls))
    ∙ ap (λ n. times x (indexes l.items) + n) (times-replies x ls)
    ∙ sym (sum_by-cons (λ (v : Vec Reply Global). times x (indexes v.items)) l ls)

-- the number of times that an index is in the lists of indexes is the number of times that it is in
-- the lists of replies
pub times_in-indexes : (x : ℕ) (drawn : List (Vec ℕ Global)) (lists : List (Vec Reply Global))
    → map (λ (v : Vec ℕ Global). v.items) drawn ≡ map (λ (l : Vec Reply Global). indexes l.items) lists
    → sum_by (λ (v : Vec ℕ Global). times x v.items) drawn ≡ times_in x lists
times_in-indexes x [] [] same = refl
times_in-indexes x (v ∷ vs) (l ∷ ls) same =
    let head : v.items ≡ indexes l.items = cc same in
    let tail : map (λ (v : Vec ℕ Global). v.items) vs ≡ map (λ (l : Vec Reply Global). indexes l.items) ls = cc same in
    sum_by-cons (λ (w : Vec ℕ Global). times x w.items) v vs
    ∙ ap (λ n. n + sum_by (λ (w : Vec ℕ Global). times x w.items) vs) (ap (times x) head)
    ∙ ap (λ n. times x (indexes l.items) + n) (times_in-indexes x vs ls tail)
    ∙ sym (sum_by-cons (λ (w : Vec Reply Global). times x (indexes w.items)) l ls)
times_in-indexes x drawn lists same = absurd (cc same)

pub replies-push : (lists : List (Vec Reply Global)) (l : Vec Reply Global) → replies (lists ++ l ∷ []) ≡ replies lists ++ l.items
replies-push lists l = flat_map-append (λ (v : Vec Reply Global). v.items) lists (l ∷ []) ∙ ap (λ rest. replies lists ++ rest) (append-nil l.items)

-- Lists of replies are stored, and then one more list. If memory is refused, or two of these
-- replies have the same index, this is an error of collecting the answers.
pub twice_collected : (count : ℕ) (first rest lists : List (Vec Reply Global)) (l : Vec Reply Global) (e : ServeError)
    → (first ++ l ∷ []) ++ rest ≡ lists → (e ≡ Memory) ⊎ IsTwice (replies first ++ l.items) e → IsCollectError count lists e
twice_collected count first rest lists l e whole h2 = search (rules, replies-push, sum_by-append, times-replies)

-- The replies of all lists are stored in the slots of their requests. If memory is refused after
-- that, or a slot is empty, this is an error of collecting the answers.
pub missing_collected : (count : ℕ) (slots : List (Option Answer)) (lists : List (Vec Reply Global)) (e : ServeError)
    → length slots ≡ count → AreFilled slots (replies lists) → (e ≡ Memory) ⊎ ((index : ℕ) × (e ≡ Missing index) × (slice_get slots index ≡ Some None)) → IsCollectError count lists e
missing_collected count slots lists e long is h3 = search (rules, slice_get_within, times-replies)

-- if `all` is `before` followed by `left`, and `left` is `x` followed by `after`, then `all` is
-- `before`, `x` and `after`, in this order
pub left_step : {X : Type 0} (before : List X) (x : X) (left after all : List X) → before ++ left ≡ all → left ≡ x ∷ after → (before ++ x ∷ []) ++ after ≡ all
left_step before x left after all whole next = append_assoc before (x ∷ []) after ∙ ap (λ l. before ++ l) (sym next) ∙ whole

-- if `all` is `before` followed by `left`, and `left` is empty, `all` is `before`
pub left_none : {X : Type 0} (before left all : List X) → before ++ left ≡ all → length left ≡ 0 → before ≡ all
left_none before left all whole none = grind (arith, common_steps, append-nil)

-- a fact about all elements holds of `x`, the first element of `left`, where `left` follows the
-- elements `before`
pub left_next : {X : Type 0} (P : X → Type 0) (before : List X) (x : X) (left after all : List X) → before ++ left ≡ all → left ≡ x ∷ after → All P all → P x
left_next P before x left after all whole next holds =
    let same : before ++ x ∷ after ≡ all = ap (λ l. before ++ l) (sym next) ∙ whole in
    let here : All P (before ++ x ∷ after) = subst (All P) (sym same) holds in
    All-head P x after (all_back P before (x ∷ after) here)

-- if an element is added at the end of a list, its value under `f` is added at the end of the list
-- of values
pub map_push : {X Y : Type 0} (f : X → Y) (xs ys : List X) (x : X) → ys ≡ xs ++ x ∷ [] → map f ys ≡ map f xs ++ f x ∷ []
map_push f xs ys x pushed = ap (map f) pushed ∙ map-append f xs (x ∷ [])

-- if the error names an index that two of the replies up to `r` have, two replies of the whole list
-- also have this index
pub twice_whole : (done before : List Reply) (r : Reply) (after all : List Reply) (e : ServeError)
    → (before ++ r ∷ []) ++ after ≡ all → IsTwice ((done ++ before) ++ r ∷ []) e → IsTwice (done ++ all) e
twice_whole done before r after all e whole twice = grind (arith, common_steps, append_assoc, twice_more)
