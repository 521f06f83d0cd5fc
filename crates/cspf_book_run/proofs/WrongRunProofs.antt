-- The weaker laws allow the wrong runs, but the laws of covered links refuse them. A covered link
-- has at least the bandwidth that the placements count on it.
use Rattle.std.proofs.Common.{◌≡◌, ◌⊎◌, ℕ, zero, suc, ◌<◌, ◌≤◌, ◌^◌, true, false, cond, Some, List, [], ◌∷◌, ◌++◌, map, slice_index, inl, inr, refl, sym, ap, subst, ◌∙◌, append_assoc, append-nil, lit<, arith}
use Rattle.std.proofs.lemmas.List.Elements.{All-contains, All-from_recursion}
use Rattle.std.specs.FinMap.{empty, insert, get-insert}
use Rattle.std.specs.List.{AllByRecursion, Contains, flat_map}
use Rattle.std.specs.Ordering.{eq_by_cmp}
use Rattle.cspf_addr.specs.AddressText.{IsAddressTextInjective}
use Rattle.cspf_model.specs.declared.batch.Change.TheVariants.{Put}
use Rattle.cspf_model.specs.declared.link.Link.{Link}
use Rattle.cspf_model.specs.Changes.{after_change, no_links}
use Rattle.cspf_model.specs.Database.{Database, Key, key_of, key_cmp, link_at, IsLinkOf}
use Rattle.cspf_model.specs.Examples.{router}
use Rattle.cspf_model.proofs.Databases.Keys.{keys_total, keys_same}
use Rattle.cspf_book.specs.declared.over.Over.{Over}
use Rattle.cspf_book.specs.Placements.{counted}
use Rattle.cspf_book.specs.OverLinks.{priorities, over_at}
use Rattle.cspf_book_run.specs.BookLines.{over_line, base_line}
use Rattle.cspf_book_run.specs.BookScript.{BookRunState, changers}
use Rattle.cspf_book_run.specs.BookScriptLaws.{IsBookCovered, IsSaidOver, CoversSince}
use Rattle.cspf_book_run.specs.WrongRuns.{ObeysWeakerLaws, WeakerLawsFollow, HoldsThroughout, left_link, right_link, base_with, holding, book_with, over_lines, both_covered, both_lowered, right_raised, IsRefusedAfterwards, ExcuseEndsWithCover, OtherLinkIsNoExcuse, OtherPriorityIsNoExcuse, UntrueOverIsRefused}
use Rattle.cspf_book_run.proofs.BookCovered.{said_among, said_first, said_second}
use Rattle.cspf_book_run.proofs.OverExact.{none_at_first, all_below}
use Rattle.cspf_book_run.proofs.OverTexts.{words, words_once, named_among}

-- ---- the weaker laws follow from the law of covered links

pub weaker_laws_follow : WeakerLawsFollow
weaker_laws_follow s t lines since = record {
  keeps = λ same covered l priority there small. elim (since l priority there small (λ was. covered l priority was small)) [
    | inl c ↦ c
    | inr said ↦ absurd (omega (arith, said.0, same))
  ];
  says = λ covered l priority there small. elim (since l priority there small (λ was. covered l priority was small)) [
    | inl c ↦ inl c
    | inr said ↦ inr said.1
  ];
}

-- ---- the two links

by_put : (d : Database) (m l : Link) → IsLinkOf (after_change d (Put m)) l → (key_of l ≡ key_of m) ⊎ IsLinkOf d l
by_put d m l is =
    elim (eq_by_cmp key_cmp (key_of l) (key_of m)) as (λ b. eq_by_cmp key_cmp (key_of l) (key_of m) ≡ b → cond b (Some m) (link_at d (key_of l)) ≡ Some l → (key_of l ≡ key_of m) ⊎ IsLinkOf d l) [
      | true ↦ λ tie _. inl (keys_same (key_of l) (key_of m) tie)
      | false ↦ λ _ there. inr there
    ] refl (sym (get-insert keys_total d.links (key_of m) m (key_of l)) ∙ is)

left_or_right : (left right : ℕ) (l : Link) → IsLinkOf (base_with left right) l → (key_of l ≡ key_of (left_link 100)) ⊎ (key_of l ≡ key_of (right_link 100))
left_or_right left right l is =
    elim (by_put (after_change no_links (Put (left_link left))) (right_link right) l is) [
      | inl key ↦ inr key
      | inr there ↦ elim (by_put no_links (left_link left) l there) [ inl key ↦ inl key | inr none ↦ absurd (none_at_first l none) ]
    ]

has_left : (left right : ℕ) → IsLinkOf (base_with left right) (left_link left)
has_left left right =
    let l : Link = left_link left in
    let r : Link = right_link right in
    get-insert keys_total (insert empty (key_of l) l) (key_of r) r (key_of l) ∙ get-insert keys_total empty (key_of l) l (key_of l)

has_right : (left right : ℕ) → IsLinkOf (base_with left right) (right_link right)
has_right left right =
    let l : Link = left_link left in
    let r : Link = right_link right in
    get-insert keys_total (insert empty (key_of l) l) (key_of r) r (key_of r)

-- ---- the weaker laws allow the runs

-- The list of a link's entries at all priorities contains the entry at each priority below 8.
named_at : (m : Link) (p : ℕ) → p < 8 → Contains (map (over_at m) priorities) (over_at m p)
named_at m zero small = (0, lit< tt, refl)
named_at m (suc zero) small = (1, lit< tt, refl)
named_at m (suc (suc zero)) small = (2, lit< tt, refl)
named_at m (suc (suc (suc zero))) small = (3, lit< tt, refl)
named_at m (suc (suc (suc (suc zero)))) small = (4, lit< tt, refl)
named_at m (suc (suc (suc (suc (suc zero))))) small = (5, lit< tt, refl)
named_at m (suc (suc (suc (suc (suc (suc zero)))))) small = (6, lit< tt, refl)
named_at m (suc (suc (suc (suc (suc (suc (suc zero))))))) small = (7, lit< tt, refl)
named_at m (suc (suc (suc (suc (suc (suc (suc (suc p)))))))) small = absurd (omega arith)

-- Two links with the same key have the same `over` lines.
said_by_key : (lines : List ℕ) (m l : Link) (priority : ℕ) → key_of l ≡ key_of m → IsSaidOver lines m priority → IsSaidOver lines l priority
said_by_key lines m l priority key said =
    let same : over_at m priority ≡ over_at l priority = ap (λ (k : Key). record { from = k.0; local = k.1; priority = priority }) (sym key) in
    subst (λ (o : Over). (before : List ℕ) × (after : List ℕ) × (lines ≡ before ++ over_line o ++ after)) same said

-- The `over` lines of the first batch name both links at each priority. An `over` line reports too
-- little bandwidth.
both_named : (left right : ℕ) (l : Link) (priority : ℕ) → priority < 8 → IsLinkOf (base_with left right) l → IsSaidOver both_lowered.0 l priority
both_named left right l priority small is =
    let first : List ℕ = over_lines (left_link 100) priorities in
    let second : List ℕ = over_lines (right_link 100) priorities in
    let all : IsSaidOver (first ++ second) l priority = elim (left_or_right left right l is) [
      | inl key ↦
          said_first l priority (first ++ second) first second refl
          (said_by_key first (left_link 100) l priority key (said_among (map (over_at (left_link 100)) priorities) (over_at (left_link 100) priority) (named_at (left_link 100) priority small)))
      | inr key ↦
          said_second l priority (first ++ second) first second refl
          (said_by_key second (right_link 100) l priority key (said_among (map (over_at (right_link 100)) priorities) (over_at (right_link 100) priority) (named_at (right_link 100) priority small)))
    ] in
    said_first l priority both_lowered.0 (first ++ second) (base_line 2 3) refl all

-- The weaker laws hold between the first state and each later state, because the `over` lines in
-- between name both links at each priority.
from_first : (lines more : List ℕ) (left right : ℕ) (t : BookRunState) → lines ≡ both_lowered.0 ++ more → t.book.base ≡ base_with left right → 1 < changers t
    → ObeysWeakerLaws both_covered lines t
from_first lines more left right t split base later = record {
  keeps = λ same covered. absurd (omega (arith, same, later));
  says = λ covered l priority there small.
      inr (said_first l priority lines both_lowered.0 more split (both_named left right l priority small (subst (λ (d : Database). IsLinkOf d l) base there)));
}

-- The left link isn't covered: it has 100 bytes per second, and a placement holds 600 on it. So the
-- weaker laws don't restrict what follows this state.
left_short : (batches version right : ℕ) → ¬ IsBookCovered (book_with batches version 100 right (holding 1 ∷ [])).book
left_short batches version right covered =
    let most : 600 ≤ 100 = covered (left_link 100) 0 (has_left 100 right) (lit< tt) in omega (arith, most)

from_short : (s : BookRunState) (lines : List ℕ) (t : BookRunState) → ¬ IsBookCovered s.book → ObeysWeakerLaws s lines t
from_short s lines t short = record { keeps = λ _ covered. absurd (short covered); says = λ covered. absurd (short covered) }

allowed : (lines : List ℕ) (left right : ℕ) (t : BookRunState) → t.book.base ≡ base_with left right → 1 < changers t
    → HoldsThroughout ObeysWeakerLaws both_covered (both_lowered ∷ right_raised ∷ (lines, t) ∷ [])
allowed lines left right t base later = (
  (
    from_first both_lowered.0 [] 100 100 both_lowered.1 (sym (append-nil both_lowered.0)) refl (lit< tt),
    (
      from_first (both_lowered.0 ++ right_raised.0) right_raised.0 100 1000 right_raised.1 refl refl (lit< tt),
      (from_first (both_lowered.0 ++ right_raised.0 ++ lines) (right_raised.0 ++ lines) left right t (append_assoc both_lowered.0 right_raised.0 lines) base later, tt),
    ),
  ),
  (
    (
      from_short both_lowered.1 right_raised.0 right_raised.1 (left_short 2 3 100),
      (from_short both_lowered.1 (right_raised.0 ++ lines) t (left_short 2 3 100), tt),
    ),
    ((from_short right_raised.1 lines t (left_short 3 4 1000), tt), tt),
  ),
)

-- ---- the law of covered links refuses the wrong runs

-- what the law of covered links requires of the run after the step in which the right link's
-- bandwidth is raised
abbrev Last : List ℕ → BookRunState → Type 0
Last lines t = CoversSince right_raised.1 lines t

last : (lines : List ℕ) (t : BookRunState) → HoldsThroughout CoversSince both_covered (both_lowered ∷ right_raised ∷ (lines, t) ∷ []) → Last lines t
last lines t all = all.1.1.0.0

pub excuse_ends : ExcuseEndsWithCover
excuse_ends lines =
    let t : BookRunState = book_with 3 5 100 1000 (holding 1 ∷ holding 2 ∷ []) in (
      allowed lines 100 1000 t refl (lit< tt),
      λ all.
          let fits : 600 ≤ 1000 = omega arith in
          elim (last lines t all (right_link 1000) 0 (has_right 100 1000) (lit< tt) (λ _. fits)) [
            | inl covered ↦ let most : 1200 ≤ 1000 = covered in omega (arith, most)
            | inr said ↦ let more : 3 < 3 = said.0 in omega (arith, more)
          ],
    )

-- A base in which the right link has 1,000 bytes per second doesn't contain the right link with 100
-- bytes per second.
other_link : ¬ IsLinkOf (base_with 100 1000) (right_link 100)
other_link is =
    let found : Some (right_link 1000) ≡ Some (right_link 100) = sym (has_right 100 1000) ∙ is in
    let same : right_link 1000 ≡ right_link 100 = cc in
    let numbers : 1000 ≡ 100 = ap (λ (m : Link). slice_index m.free 0) same in
    omega (arith, numbers)

-- Let the last step of the run lower the bandwidth of the right link again. If its lines have no
-- `over` line of this link and this priority, `IsRefusedAfterwards` holds for the step.
lowered_again : (lines : List ℕ) (priority : ℕ) → priority < 8 → 100 < counted (holding 1 ∷ []) (key_of (right_link 100)) priority → slice_index (right_link 100).free priority ≡ 100
    → ¬ IsSaidOver lines (right_link 100) priority → IsRefusedAfterwards (lines, book_with 4 5 100 100 (holding 1 ∷ []))
lowered_again lines priority small short free unsaid =
    let t : BookRunState = book_with 4 5 100 100 (holding 1 ∷ []) in (
      allowed lines 100 100 t refl (lit< tt),
      λ all. elim (last lines t all (right_link 100) priority (has_right 100 100) small (λ was. absurd (other_link was))) [
        | inl covered ↦ absurd (omega (arith, covered, short, free))
        | inr said ↦ unsaid said.1
      ],
    )

-- The entry is for this link and a priority below 8.
abbrev IsOf : Link → Over → Type 0
IsOf m o = (o.from ≡ m.from) × (o.local ≡ m.local) × (o.priority < 8)

all_of : (m : Link) (ps : List ℕ) → AllByRecursion (λ p. p < 8) ps → AllByRecursion (IsOf m) (map (over_at m) ps)
all_of m [] all = tt
all_of m (p ∷ ps) all = ((refl, refl, all.0), all_of m ps all.1)

-- Let a batch have the lines of some entries, and then its last line. If the `over` line of a link
-- is found in this text, it has the words of the line of one of these entries.
among : (os : List Over) (number version : ℕ) (l : Link) (priority : ℕ) → IsSaidOver (flat_map over_line os ++ base_line number version) l priority
    → (y : Over) × Contains os y × (words y ≡ words (over_at l priority))
among os number version l priority said =
    named_among os [] number version (over_at l priority) said.0 said.1 (ap (λ (z : List ℕ). z ++ base_line number version) (append-nil (flat_map over_line os)) ∙ said.2)

pub other_link_is_no_excuse : IsAddressTextInjective → OtherLinkIsNoExcuse
other_link_is_no_excuse one =
    lowered_again (over_lines (left_link 100) priorities ++ base_line 4 5) 0 (lit< tt) (lit< tt) refl (λ said.
    let found = among (map (over_at (left_link 100)) priorities) 4 5 (right_link 100) 0 said in
    let y : Over = found.0 in
    let is : IsOf (left_link 100) y =
    All-contains (IsOf (left_link 100)) (map (over_at (left_link 100)) priorities) y (All-from_recursion (IsOf (left_link 100)) (map (over_at (left_link 100)) priorities) (all_of (left_link 100) priorities all_below)) found.1 in
    let from : y.from < 2 ^ 32 = omega (arith, is.0) in
    let local : y.local < 2 ^ 32 = omega (arith, is.1) in
    let equal = words_once one y (over_at (right_link 100) 0) from local is.2 (lit< tt) (lit< tt) (lit< tt) found.2 in
    let routers : router 1 ≡ router 2 = sym is.0 ∙ equal.0 in
    omega (arith, routers))

only_one : {A : Type 0} (x y : A) → Contains (x ∷ []) y → x ≡ y
only_one x y (zero, within, is) = is
only_one x y (suc k, within, is) = absurd (omega arith)

pub other_priority_is_no_excuse : IsAddressTextInjective → OtherPriorityIsNoExcuse
other_priority_is_no_excuse one =
    lowered_again (over_lines (right_link 100) (0 ∷ []) ++ base_line 4 5) 7 (lit< tt) (lit< tt) refl (λ said.
    let found = among (over_at (right_link 100) 0 ∷ []) 4 5 (right_link 100) 7 said in
    let same : over_at (right_link 100) 0 ≡ found.0 = only_one (over_at (right_link 100) 0) found.0 found.1 in
    let equal = words_once one (over_at (right_link 100) 0) (over_at (right_link 100) 7) (lit< tt) (lit< tt) (lit< tt) (lit< tt) (lit< tt) (lit< tt) (ap words same ∙ found.2) in
    let numbers : 0 ≡ 7 = equal.2 in
    omega (arith, numbers))

-- ---- the law of exact `over` lines refuses the last wrong run

pub untrue_over_is_refused : UntrueOverIsRefused
untrue_over_is_refused = (
  (
    (
      record {
        keeps = λ same covered. let numbers : 2 ≡ 1 = same in absurd (omega (arith, numbers));
        says = λ covered l priority there small. inl (covered l priority there small);
      },
      tt,
    ),
    tt,
  ),
  λ exact.
      let line : List ℕ = over_line (over_at (right_link 1000) 3) in
      let short = (exact (right_link 1000) 3 (lit< tt) (lit< tt) (lit< tt)).0 ([], base_line 2 3, ap (λ (z : List ℕ). z ++ base_line 2 3) (append-nil line)) in
      let same : Put (right_link 1000) ≡ Put short.0 = only_one (Put (right_link 1000)) (Put short.0) short.1 in
      let one : right_link 1000 ≡ short.0 = cc in
      let less : 1000 < 600 = subst (λ (m : Link). slice_index m.free 3 < counted (holding 1 ∷ []) (key_of m) 3) (sym one) short.3 in
      omega (arith, less),
)
