-- The list of the links and priorities at which a link has less bandwidth than the placements count
-- on it.
use Rattle.std.proofs.Common.{◌≡◌, ◌⊎◌, inl, inr, ℕ, zero-add, zero, suc, ◌+◌, ◌<◌, ◌≤◌, Bool, true, false, cond, Some, List, [], ◌∷◌, ◌++◌, map, filter, slice_index, sym, ap, ◌∙◌, arith}
use Rattle.std.specs.Ordering.{eq_by_cmp}
use Rattle.std.specs.List.{range_with_len, Contains}
use Rattle.std.proofs.lemmas.Bool.{lt-ltb, le-ltb, cases_lt}
use Rattle.std.proofs.lemmas.List.{map-append, map-id, append-nil, append_assoc, length-map, get_or-map}
use Rattle.std.proofs.lemmas.List.FromFn.{map-range_with_len_more, get_or-range_with_len}
use Rattle.std.proofs.lemmas.List.Elements.{filter-append, Contains-append_left, Contains-append_right}
use Rattle.cspf_model.specs.declared.link.Link.{Link}
use Rattle.cspf_model.specs.declared.batch.Change.{Change}
use Rattle.cspf_model.specs.declared.batch.Change.TheVariants.{Put, Remove, Node}
use Rattle.cspf_model.specs.Database.{Database, key_of, link_at}
use Rattle.cspf_model.specs.Changes.{change_key_cmp, link_key, key_changed, link_left, after_change, after_changes}
use Rattle.cspf_model.proofs.Databases.LastChanges.{link_at-after_change}
use Rattle.cspf_book.specs.declared.over.Over.{Over}
use Rattle.cspf_book.specs.declared.placement.Placement.{Placement}
use Rattle.cspf_book.specs.Placements.{counted}
use Rattle.cspf_book.specs.OverLinks.{priorities, is_over, over_at, over_by, over}
use Rattle.cspf_book.specs.Laws.{AbsorbingKeepsCovered}

-- the entries for a link at the priorities below n that pass a test
abbrev pub entries_up_to : (ℕ → Bool) → Link → ℕ → List Over
entries_up_to test l n = map (over_at l) (filter test (range_with_len 0 n))

-- the entries of `over_on` for the priorities below n: those at which the link has less bandwidth
-- than is counted on it
abbrev pub over_up_to : List Placement → Link → ℕ → List Over
over_up_to placements l n = entries_up_to (is_over placements l) l n

-- The list of the numbers from 0 to n is the list of the numbers below n, followed by n.
range_with_len-more : (n : ℕ) → range_with_len 0 (n + 1) ≡ range_with_len 0 n ++ n ∷ []
range_with_len-more n =
    sym (map-id (range_with_len 0 (n + 1))) ∙ map-range_with_len_more (λ k. k) 0 n n (omega arith)
    ∙ ap (λ ks. ks ++ n ∷ []) (map-id (range_with_len 0 n))

entries-more : (test : ℕ → Bool) (l : Link) (n : ℕ)
    → entries_up_to test l (n + 1) ≡ entries_up_to test l n ++ map (over_at l) (filter test (n ∷ []))
entries-more test l n =
    ap (λ ks. map (over_at l) (filter test ks)) (range_with_len-more n)
    ∙ ap (map (over_at l)) (filter-append test (range_with_len 0 n) (n ∷ []))
    ∙ map-append (over_at l) (filter test (range_with_len 0 n)) (filter test (n ∷ []))

-- If priority n passes the test, `entries_up_to` lists the same entries for n + 1 as for n, followed
-- by an entry for priority n.
pub entry_listed : (test : ℕ → Bool) (l : Link) (n : ℕ) (start list : List Over) → test n ≡ true → list ≡ start ++ entries_up_to test l n
    → list ++ over_at l n ∷ [] ≡ start ++ entries_up_to test l (n + 1)
entry_listed test l n start list passes so_far =
    ap (λ os. os ++ over_at l n ∷ []) so_far
    ∙ append_assoc start (entries_up_to test l n) (over_at l n ∷ [])
    ∙ ap (λ os. start ++ os)
    (sym (entries-more test l n ∙ ap (λ b. entries_up_to test l n ++ map (over_at l) (cond b (n ∷ []) [])) passes))

-- If priority n doesn't pass the test, `entries_up_to` lists the same entries for n + 1 as for n.
pub entry_passed : (test : ℕ → Bool) (l : Link) (n : ℕ) (start list : List Over) → test n ≡ false → list ≡ start ++ entries_up_to test l n
    → list ≡ start ++ entries_up_to test l (n + 1)
entry_passed test l n start list fails so_far =
    so_far
    ∙ ap (λ os. start ++ os)
    (sym (entries-more test l n ∙ ap (λ b. entries_up_to test l n ++ map (over_at l) (cond b (n ∷ []) [])) fails
    ∙ append-nil (entries_up_to test l n)))

-- Let a link have less bandwidth at priority n than the placements count on it. Then `over_up_to`
-- lists the same entries for n + 1 as for n, followed by an entry for priority n.
pub over_listed : (placements : List Placement) (l : Link) (n : ℕ) (start list : List Over)
    → slice_index l.free n < counted placements (key_of l) n → list ≡ start ++ over_up_to placements l n
    → list ++ over_at l n ∷ [] ≡ start ++ over_up_to placements l (n + 1)
over_listed placements l n start list less so_far =
    entry_listed (is_over placements l) l n start list (lt-ltb (slice_index l.free n) (counted placements (key_of l) n) less) so_far

-- Let a link have enough bandwidth at priority n for the placements. Then `over_up_to` lists the
-- same entries for n + 1 as for n.
pub over_passed : (placements : List Placement) (l : Link) (n : ℕ) (start list : List Over)
    → counted placements (key_of l) n ≤ slice_index l.free n → list ≡ start ++ over_up_to placements l n
    → list ≡ start ++ over_up_to placements l (n + 1)
over_passed placements l n start list enough so_far =
    entry_passed (is_over placements l) l n start list (le-ltb (slice_index l.free n) (counted placements (key_of l) n) enough) so_far

-- A filtered list contains each element of the list that passes the test.
Contains-filter : {A : Type 0} (p : A → Bool) (xs : List A) (x : A) → Contains xs x → p x ≡ true → Contains (filter p xs) x
Contains-filter p [] x (k, within, is) passes = absurd (omega arith)
Contains-filter p (y ∷ ys) x (zero, within, is) passes =
    rw (ap p is ∙ passes) (0, omega arith, is)
Contains-filter p (y ∷ ys) x (suc k, within, is) passes =
    elim (p y) as (λ b. Contains (cond b (y ∷ filter p ys) (filter p ys)) x) [
      | true ↦ let rest = Contains-filter p ys x (k, omega arith, is) passes in (suc rest.0, omega (arith, rest.1), rest.2)
      | false ↦ Contains-filter p ys x (k, omega arith, is) passes
    ]

-- If a list contains x, the list mapped by f contains f x.
Contains-map : {A B : Type 0} (f : A → B) (xs : List A) (x : A) → Contains xs x → Contains (map f xs) (f x)
Contains-map f xs x (k, within, is) =
    (k, omega (arith, length-map xs f, within), get_or-map f xs k x (f x) within ∙ ap f is)

-- The list of priorities contains each number below 8.
Contains-priorities : (n : ℕ) → n < 8 → Contains priorities n
Contains-priorities n small = (n, small, get_or-range_with_len 0 8 n n small ∙ zero-add n)

-- If a priority passes a test, the entries of a link at the priorities that pass it have an entry for
-- this priority.
pub named : (test : ℕ → Bool) (l : Link) (priority : ℕ) → priority < 8 → test priority ≡ true
    → Contains (map (over_at l) (filter test priorities)) (over_at l priority)
named test l priority small passes =
    Contains-map (over_at l) (filter test priorities) priority (Contains-filter test priorities priority (Contains-priorities priority small) passes)

-- If a database has a link after one change, it had the link before, or the change sets it (`Put`).
put_by_one : (d : Database) (c : Change) (l : Link) → link_at (after_change d c) (key_of l) ≡ Some l → (link_at d (key_of l) ≡ Some l) ⊎ (c ≡ Put l)
put_by_one d c l is =
    elim (eq_by_cmp change_key_cmp (link_key (key_of l)) (key_changed c)) as (λ b. cond b (link_left c) (link_at d (key_of l)) ≡ Some l → (link_at d (key_of l) ≡ Some l) ⊎ (c ≡ Put l)) [
      | true ↦ λ left. inr (the_put c left)
      | false ↦ λ there. inl there
    ] (sym (link_at-after_change d c (key_of l)) ∙ is)
  where
    the_put : (b : Change) → link_left b ≡ Some l → b ≡ Put l
    the_put (Put m) e = let same : m ≡ l = cc in ap Put same
    the_put (Remove from local) e = absurd (cc)
    the_put (Node router transit) e = absurd (cc)

-- Let the base have, after the changes, a link with less bandwidth at a priority than the
-- placements count on it. Then the base had the same link before the changes, or the list `over`
-- has an entry for the link and this priority.
over_or_kept : (d : Database) (placements : List Placement) (changes : List Change) (l : Link) (priority : ℕ) → priority < 8
    → is_over placements l priority ≡ true → link_at (after_changes d changes) (key_of l) ≡ Some l
    → (link_at d (key_of l) ≡ Some l) ⊎ Contains (over placements changes) (over_at l priority)
over_or_kept d placements [] l priority small passes is = inl is
over_or_kept d placements (c ∷ cs) l priority small passes is =
    elim (over_or_kept (after_change d c) placements cs l priority small passes is) [
      | inl there ↦
          elim (put_by_one d c l there) [
            | inl before ↦ inl before
            | inr put ↦ inr (Contains-append_left (over_by placements c) (over placements cs) (over_at l priority) (rw put (named (is_over placements l) l priority small passes)))
          ]
      | inr later ↦ inr (Contains-append_right (over_by placements c) (over placements cs) (over_at l priority) later)
    ]

-- Take a link of the base after changes, and a priority. The base had the same link before the
-- changes, or the link is covered (`IsCovered`), or the list `over` has an entry for the link and
-- this priority.
pub absorbing_covered : AbsorbingKeepsCovered
absorbing_covered base placements changes l priority is small =
    elim (cases_lt (slice_index l.free priority) (counted placements (key_of l) priority)) [
      | inl less ↦
          elim (over_or_kept base placements changes l priority small (lt-ltb (slice_index l.free priority) (counted placements (key_of l) priority) less) is) [
            | inl there ↦ inl there
            | inr name ↦ inr (inr name)
          ]
      | inr enough ↦ inr (inl enough)
    ]
