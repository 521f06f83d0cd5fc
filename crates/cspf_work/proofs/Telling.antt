-- Workers answer requests while a publisher applies batches. Afterwards each asker (which computes
-- a worker's answers) learns of the published batches. The answers are still right then.
use Rattle.std.proofs.Common.{◌≡◌, ℕ, zero, suc, ◌+◌, ◌<◌, ◌≤◌, cond, eqb, List, [], ◌∷◌, length, length-append, Option, Some, get_or, All, Vec, inl, inr, refl, sym, ap, ◌∙◌, subst, arith, slice_get, slice_set, sum_by, unwrap_or, option_map, rules}
use Rattle.std.specs.Global.{Global}
use Rattle.std.proofs.lemmas.Bool.{cases_Bool, cases_lt, eqb-true, eqb-false}
use Rattle.std.proofs.lemmas.Bool.Decides.{nat_tests}
use Rattle.std.proofs.lemmas.List.Elements.{All-weaker}
use Rattle.std.proofs.lemmas.List.Sums.{sum_by-cons}
use Rattle.std.proofs.lemmas.List.{get_or-set_same, get_or-set_other}
use Rattle.std.proofs.lemmas.Option.{slice_get_within, slice_get-get_or, get_or_from_slice_get}
use Rattle.cspf_model.specs.Numbered.{NumberedChanges}
use Rattle.cspf_model.specs.declared.request.Request.{Request}
use Rattle.logbook.specs.Pages.{Book}
use Rattle.cspf_publish.specs.declared.answer.Answer.{Answer}
use Rattle.cspf_publish.specs.Answers.{IsAnswerAfter}
use Rattle.cspf_publish.specs.Histories.{BeginsWith}
use Rattle.cspf_publish.specs.AskerStates.{AskerState}
use Rattle.cspf_jobs.specs.EachOnce.{once_below, times}
use Rattle.cspf_work.specs.Served.{IsAnswerWithin, IsServed, IsServedAt, version_at, AreAnsweredByWorkers, AreAnswersWithin, AreSameAskers, KnowsNoLess}
use Rattle.cspf_work.proofs.Asked.{within_later, take_begins, knows_through}
use Rattle.cspf_work.proofs.Running.{at_place}

served_at_later : (requests : List Request) (list : List Answer) (before mid after : List NumberedChanges) (i : ℕ)
    → BeginsWith after mid → IsServedAt requests list before mid i → IsServedAt requests list before after i
served_at_later requests list before mid after i more is = record {
  later = is.later;
  answer = λ q a at there. within_later mid after q a more (is.answer q a at there);
}

pub served_later : (requests : List Request) (list : List Answer) (before mid after : List NumberedChanges) (indexes : List ℕ)
    → BeginsWith after mid → IsServed requests list before mid indexes → IsServed requests list before after indexes
served_later requests list before mid after indexes more is = search (rules, All-weaker, served_at_later)

-- if the askers (which compute the workers' answers) learn of more batches after the answers, the
-- answers are still right
pub answered_later : (requests : List Request) (before mid after : List AskerState) (list : List Answer) (drawn : List (Vec ℕ Global))
    → length mid ≡ length before → AreSameAskers mid after → AreAnsweredByWorkers requests before mid list drawn → AreAnsweredByWorkers requests before after list drawn
answered_later requests before mid after list drawn count same is = record {
  count = is.count;
  lists = is.lists;
  once = is.once;
  served = λ i old new ix at there drew.
      let less = slice_get_within before i old at in
      let known = at_place mid i (omega arith) in
      served_later requests list old.batches (known.0).batches new.batches ix.items ((same.each i known.0 new known.1 there).later) (is.served i old known.0 ix at known.1 drew);
}

served_at_before : (requests : List Request) (list : List Answer) (before mid after : List NumberedChanges) (i : ℕ)
    → BeginsWith mid before → IsServedAt requests list mid after i → IsServedAt requests list before after i
served_at_before requests list before mid after i more is = search (rules, length-append)

served_before : (requests : List Request) (list : List Answer) (before mid after : List NumberedChanges) (indexes : List ℕ)
    → BeginsWith mid before → IsServed requests list mid after indexes → IsServed requests list before after indexes
served_before requests list before mid after indexes more is = search (rules, All-weaker, served_at_before)

-- The answers are right for askers (which compute the workers' answers) that knew `mid` at the
-- start. Then they are also right for an earlier state `before` of these askers, in which each
-- asker knew no more batches.
pub answered_before : (requests : List Request) (before mid after : List AskerState) (list : List Answer) (drawn : List (Vec ℕ Global))
    → AreSameAskers before mid → AreAnsweredByWorkers requests mid after list drawn → AreAnsweredByWorkers requests before after list drawn
answered_before requests before mid after list drawn same is = record {
  count = is.count;
  lists = is.lists ∙ same.count;
  once = is.once;
  served = λ i old new ix at there drew.
      let count = same.count in
      let less = slice_get_within before i old at in
      let known = at_place mid i (omega arith) in
      served_before requests list old.batches (known.0).batches new.batches ix.items ((same.each i old known.0 at known.1).later) (is.served i known.0 new ix known.1 there drew);
}

pub same_through : (before mid after : List AskerState) → AreSameAskers before mid → AreSameAskers mid after → AreSameAskers before after
same_through before mid after p q = record {
  count = q.count ∙ p.count;
  each = λ i old new at there.
      let count = p.count in
      let less = slice_get_within before i old at in
      let known = at_place mid i (omega arith) in
      knows_through old known.0 new (p.each i old known.0 at known.1) (q.each i known.0 new known.1 there);
}

-- if some lists together have a number at least once, one of the lists has it
list_with : (x : ℕ) (lists : List (Vec ℕ Global)) → 0 < sum_by (λ (l : Vec ℕ Global). times x l.items) lists
    → (i : ℕ) × (l : Vec ℕ Global) × (slice_get lists i ≡ Some l) × (0 < times x l.items)
list_with x [] some = absurd (omega arith)
list_with x (l ∷ ls) some = elim (cases_lt 0 (times x l.items)) [
  | inl here ↦ (0, l, refl, here)
  | inr none ↦
      let sum = sum_by-cons (λ (v : Vec ℕ Global). times x v.items) l ls in
      let rest = list_with x ls (omega arith) in
      (suc rest.0, rest.1, rest.2, rest.3)
]

times-cons : (x y : ℕ) (ys : List ℕ) → times x (y ∷ ys) ≡ cond (eqb y x) 1 0 + times x ys
times-cons x y ys = sum_by-cons (λ z. cond (eqb z x) 1 0) y ys

-- if a list has a number at least once, it has the number at some index
place_of : (x : ℕ) (xs : List ℕ) → 0 < times x xs → (k : ℕ) × (k < length xs) × (get_or xs k 0 ≡ x)
place_of x [] some = absurd (omega arith)
place_of x (y ∷ ys) some = elim (cases_Bool (eqb y x)) [
  | inl same ↦ (0, omega arith, eqb-true y x same)
  | inr other ↦
      let sum = times-cons x y ys in
      let more : 0 < times x ys = grind (arith, nat_tests) in
      let rest = place_of x ys more in
      let inside = rest.1 in
      (suc rest.0, omega arith, rest.2)
]

-- Each request was answered by some worker. The answer is computed from a prefix of the batches
-- that the worker's asker (which computes its answers) knew at the end. The prefix has at least as
-- many batches as the asker knew at the start.
served_there : (requests : List Request) (before after : List AskerState) (list : List Answer) (drawn : List (Vec ℕ Global))
    → length after ≡ length before → AreAnsweredByWorkers requests before after list drawn → (i : ℕ) → i < length requests
    → (worker : ℕ) × (old : AskerState) × (new : AskerState) × (slice_get before worker ≡ Some old) × (slice_get after worker ≡ Some new)
    × IsServedAt requests list old.batches new.batches i
served_there requests before after list drawn count is i inside =
    let once : sum_by (λ (l : Vec ℕ Global). times i l.items) drawn ≡ 1 = is.once i ∙ (let one : once_below (length requests) i ≡ 1 = grind (arith, nat_tests) in one) in
    let worker = list_with i drawn (omega arith) in
    let place = place_of i worker.1.items worker.3 in
    let less = slice_get_within drawn worker.0 worker.1 worker.2 in
    let lists = is.lists in
    let old = at_place before worker.0 (omega arith) in
    let new = at_place after worker.0 (omega arith) in
    let served = is.served worker.0 old.0 new.0 worker.1 old.1 new.1 worker.2 in (
      worker.0,
      old.0,
      new.0,
      old.1,
      new.1,
      subst (λ n. IsServedAt requests list old.0.batches new.0.batches n) place.2 (served.answers place.0 0 place.1),
    )

-- if all askers (which compute the workers' answers) knew the batches `published` before the
-- workers began, each answer's version is at least the number of these batches
pub no_earlier : (requests : List Request) (before after : List AskerState) (list : List Answer) (drawn : List (Vec ℕ Global)) (published : List NumberedChanges)
    → length after ≡ length before → All (λ (k : AskerState). BeginsWith k.batches published) before → AreAnsweredByWorkers requests before after list drawn
    → (i : ℕ) (a : Answer) → slice_get list i ≡ Some a → length published ≤ a.version
no_earlier requests before after list drawn published count told is i a there =
    let size = is.count in
    let within = slice_get_within list i a there in
    let at = served_there requests before after list drawn count is i (omega arith) in
    let less = slice_get_within before at.0 at.1 at.3 in
    let begins : BeginsWith at.1.batches published =
    subst (λ (k : AskerState). BeginsWith k.batches published) (get_or_from_slice_get before at.0 at.1 at.1 at.3) (told at.0 at.1 less) in
    let long = ap length begins.1 ∙ length-append published begins.0 in
    let served : IsServedAt requests list at.1.batches at.2.batches i = at.5 in
    let later = served.later in
    let version : version_at list i ≡ a.version = ap (λ (o : Option Answer). unwrap_or (option_map (λ (b : Answer). b.version) o) 0) there in
    omega (arith, later, version, long)

-- An answer is computed from a prefix of `all`, and `first` is a prefix of `all` that isn't shorter
-- than the answer's version. Then the answer is computed from a prefix of `first`.
within_front : (all first : List NumberedChanges) (q : Request) (a : Answer) → BeginsWith all first → a.version ≤ length first → IsAnswerWithin all q a → IsAnswerWithin first q a
within_front all first q a more within is = record {
  version = within;
  answer = subst (λ (bs : List NumberedChanges). IsAnswerAfter bs q a) (take_begins a.version all first more within) is.answer;
}

-- if no answer's version is above the number of published batches, each answer is computed from a
-- prefix of these batches
within_published_at : (requests : List Request) (before after : List AskerState) (list : List Answer) (drawn : List (Vec ℕ Global)) (published : List NumberedChanges)
    → length after ≡ length before → All (λ (k : AskerState). BeginsWith k.batches published) after → All (λ (a : Answer). a.version ≤ length published) list
    → AreAnsweredByWorkers requests before after list drawn → (i : ℕ) (q : Request) (a : Answer) → slice_get requests i ≡ Some q → slice_get list i ≡ Some a → IsAnswerWithin published q a
within_published_at requests before after list drawn published count told accounted is i q a at there =
    let worker = served_there requests before after list drawn count is i (slice_get_within requests i q at) in
    let here : IsServedAt requests list worker.1.batches worker.2.batches i = worker.5 in
    let begins : BeginsWith worker.2.batches published =
    subst (λ (k : AskerState). BeginsWith k.batches published) (get_or_from_slice_get after worker.0 worker.2 worker.2 worker.4)
    (told worker.0 worker.2 (slice_get_within after worker.0 worker.2 worker.4)) in
    let version : a.version ≤ length published =
    subst (λ (b : Answer). b.version ≤ length published) (get_or_from_slice_get list i a a there) (accounted i a (slice_get_within list i a there)) in
    within_front worker.2.batches published q a begins version (here.answer q a at there)

pub within_published : (requests : List Request) (before after : List AskerState) (list : List Answer) (drawn : List (Vec ℕ Global)) (published : List NumberedChanges)
    → length after ≡ length before → All (λ (k : AskerState). BeginsWith k.batches published) after → All (λ (a : Answer). a.version ≤ length published) list
    → AreAnsweredByWorkers requests before after list drawn → AreAnswersWithin published requests list
within_published requests before after list drawn published count told accounted is =
    record { each = within_published_at requests before after list drawn published count told accounted is }

-- the first `n` askers (which compute the workers' answers) have learnt of the published batches,
-- and each asker knows at least the batches that it knew before
pub record AreTold (published : List NumberedChanges) (before after : List AskerState) (n : ℕ) : Type 0 where
  pub each : (i : ℕ) (d : AskerState) → i < length before → KnowsNoLess (get_or before i d) (get_or after i d)
  pub told : (i : ℕ) (d : AskerState) → i < n → BeginsWith (get_or after i d).batches published

pub told_more : (published : List NumberedChanges) (before mid : List AskerState) (n : ℕ) (was k : AskerState)
    → n < length mid → was ≡ get_or mid n was → KnowsNoLess was k → BeginsWith k.batches published
    → ((i : ℕ) (d : AskerState) → i < length before → KnowsNoLess (get_or before i d) (get_or mid i d)) → ((i : ℕ) (d : AskerState) → i < n → BeginsWith (get_or mid i d).batches published)
    → AreTold published before (slice_set mid n k) (n + 1)
told_more published before mid n was k inside at knows begins each told = record {
  each = λ i d less. elim (cases_Bool (eqb i n)) [
    | inl same ↦
        let e : i ≡ n = eqb-true i n same in
        let new : get_or (slice_set mid n k) i d ≡ k = ap (λ j. get_or (slice_set mid n k) j d) e ∙ get_or-set_same mid n k d inside in
        let old : get_or mid i d ≡ was = ap (λ j. get_or mid j d) e ∙ get_or-any mid n d was inside ∙ sym at in
        subst (λ (x : AskerState). KnowsNoLess (get_or before i d) x) (sym new)
        (knows_through (get_or before i d) was k (subst (λ (x : AskerState). KnowsNoLess (get_or before i d) x) old (each i d less)) knows)
    | inr other ↦
        subst (λ (x : AskerState). KnowsNoLess (get_or before i d) x) (sym (get_or-set_other mid n i k d (eqb-false i n other))) (each i d less)
  ];
  told = λ i d less. elim (cases_Bool (eqb i n)) [
    | inl same ↦
        let e : i ≡ n = eqb-true i n same in
        let new : get_or (slice_set mid n k) i d ≡ k = ap (λ j. get_or (slice_set mid n k) j d) e ∙ get_or-set_same mid n k d inside in
        subst (λ (x : AskerState). BeginsWith x.batches published) (sym new) begins
    | inr other ↦
        subst (λ (x : AskerState). BeginsWith x.batches published) (sym (get_or-set_other mid n i k d (eqb-false i n other)))
        (told i d (let apart = eqb-false i n other in below_next i n less apart))
  ];
}
  where
    get_or-any : (xs : List AskerState) (i : ℕ) (d e : AskerState) → i < length xs → get_or xs i d ≡ get_or xs i e
    get_or-any [] i d e less = absurd (omega arith)
    get_or-any (x ∷ xs) zero d e less = refl
    get_or-any (x ∷ xs) (suc i) d e less = get_or-any xs i d e (omega arith)

    below_next : (i n : ℕ) → i < n + 1 → (i ≡ n → ⊥) → i < n
    below_next i n less apart = elim (cases_lt i n) [ inl l ↦ l | inr l ↦ absurd (apart (omega arith)) ]

pub same_askers : (before after : List AskerState) → length after ≡ length before
    → ((i : ℕ) (d : AskerState) → i < length before → KnowsNoLess (get_or before i d) (get_or after i d)) → AreSameAskers before after
same_askers before after count each = record {
  count = count;
  each = λ i old new at there.
      subst (λ (x : AskerState). KnowsNoLess x new) (get_or_from_slice_get before i old old at)
      (subst (λ (x : AskerState). KnowsNoLess (get_or before i old) x) (get_or_from_slice_get after i new old there) (each i old (slice_get_within before i old at)));
}

-- all askers (which compute the workers' answers) still belong to the publisher's journal (its
-- source)
pub sources_kept : (source next : Book) (before after : List AskerState) → next ≡ source → All (λ (k : AskerState). k.source ≡ source) before → AreSameAskers before after
    → All (λ (k : AskerState). k.source ≡ next) after
sources_kept source next before after kept all same i d less =
    let count = same.count in
    let old = at_place before i (omega arith) in
    let knows = same.each i old.0 (get_or after i d) old.1 (slice_get-get_or after i d less) in
    let was : (old.0).source ≡ source = subst (λ (k : AskerState). k.source ≡ source) (get_or_from_slice_get before i old.0 old.0 old.1) (all i old.0 (omega arith)) in
    knows.source ∙ was ∙ sym kept
