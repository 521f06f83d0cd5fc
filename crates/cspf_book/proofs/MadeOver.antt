-- The list of the links and priorities at which one more placement makes the placements count more
-- bandwidth than a link has.
use Rattle.std.proofs.Common.{◌≡◌, inl, inr, ℕ, zero, suc, ◌+◌, ◌<◌, ◌≤◌, ◌&&◌, ◌||◌, Bool, true, false, not, cond, Option, Some, List, [], ◌∷◌, ◌++◌, length, map, take, nat_le, nat_eq, slice_index, slice_index_or, refl, sym, ap, subst, ◌∙◌, eqb-true, arith}
use Rattle.std.specs.List.{flat_map, Contains}
use Rattle.std.proofs.lemmas.Bool.{lt-ltb, le-ltb, cases_lt, false≢true}
use Rattle.std.proofs.lemmas.List.Elements.{Contains-append_left, Contains-append_right}
use Rattle.std.proofs.lemmas.Cmp.{nat_eq_equiv}
use Rattle.std.proofs.lemmas.Grind.{flat_map-append}
use Rattle.std.proofs.lemmas.List.{append-nil, map-append, take_more}
use Rattle.std.proofs.lemmas.List.Sums.{sum_by_push}
use Rattle.cspf_model.specs.declared.link.Link.{Link}
use Rattle.cspf_model.specs.Database.{Database, Key, key_of, link_at}
use Rattle.cspf_book.specs.declared.path.Passed.{Passed}
use Rattle.cspf_book.specs.declared.over.Over.{Over}
use Rattle.cspf_book.specs.declared.placement.Placement.{Placement}
use Rattle.cspf_book.specs.Placements.{key_passed, has_key, bandwidth_on, counted}
use Rattle.cspf_book.specs.OverLinks.{over_at, is_over, is_made_over, made_over_on}
use Rattle.cspf_book.specs.Laws.{RestoringKeepsCovered}
use Rattle.cspf_book.proofs.OverLists.{named}

-- In this module, `held` is the bandwidth that the placements count on a link at a priority, and
-- `more` the bandwidth that the placement `p` would count there.
module _ (placements : List Placement) (p : Placement) (l : Link) (n held more : ℕ) (before : held ≡ counted placements (key_of l) n) (own : more ≡ bandwidth_on (key_of l) n p) where
  after : counted (placements ++ p ∷ []) (key_of l) n ≡ held + more
  after = sum_by_push (bandwidth_on (key_of l) n) placements p ∙ (λ i. sym before i + sym own i)

  pub made : held ≤ slice_index l.free n → slice_index l.free n < held + more → is_made_over placements p l n ≡ true
  made enough less =
      let first = le-ltb (slice_index l.free n) (counted placements (key_of l) n) (omega (arith, enough, before)) in
      let second = lt-ltb (slice_index l.free n) (counted (placements ++ p ∷ []) (key_of l) n) (omega (arith, less, after)) in
      λ i. not (first i) && second i

  pub not_made : ((held ≤ slice_index l.free n) → (slice_index l.free n < held + more) → ⊥) → is_made_over placements p l n ≡ false
  not_made off =
      elim (cases_lt (slice_index l.free n) held) [
        | inl short ↦
            let first = lt-ltb (slice_index l.free n) (counted placements (key_of l) n) (omega (arith, short, before)) in
            λ i. not (first i) && is_over (placements ++ p ∷ []) l n
        | inr enough ↦
            elim (cases_lt (slice_index l.free n) (held + more)) [
              | inl less ↦ absurd (off enough less)
              | inr fits ↦
                  let first = le-ltb (slice_index l.free n) (counted placements (key_of l) n) (omega (arith, enough, before)) in
                  let second = le-ltb (slice_index l.free n) (counted (placements ++ p ∷ []) (key_of l) n) (omega (arith, fits, after)) in
                  λ i. not (first i) && second i
            ]
      ]

-- If a link is on the route of a placement, the placement counts its bandwidth there from its
-- holding priority on.
pub bandwidth_on-route : (k : Key) (n : ℕ) (p : Placement) → has_key p.route k ≡ true → bandwidth_on k n p ≡ cond (nat_le p.hold n) p.request.bandwidth 0
bandwidth_on-route k n p has = ap (λ b. cond b p.request.bandwidth 0) (ap (λ b. nat_le p.hold n && b) has ∙ true_right (nat_le p.hold n))
  where
    true_right : (b : Bool) → (b && true) ≡ b
    true_right true = refl
    true_right false = refl

-- If a placement counts any bandwidth on a link, the link's key is on its route.
on_route : (k : Key) (n : ℕ) (p : Placement) → zero < bandwidth_on k n p → has_key p.route k ≡ true
on_route k n p some = which (nat_le p.hold n) (has_key p.route k) some
  where
    which : (a b : Bool) → zero < cond (a && b) p.request.bandwidth 0 → b ≡ true
    which a true h = refl
    which true false h = absurd (omega (arith, h))
    which false false h = absurd (omega (arith, h))

-- If a link of the base is on the path of these links, the entries of all their keys include those of
-- this link.
made_along : (base : Database) (placements : List Placement) (p : Placement) (links : List Passed) (l : Link) (x : Over) → has_key links (key_of l) ≡ true
    → link_at base (key_of l) ≡ Some l → Contains (made_over_on placements p (Some l)) x
    → Contains (flat_map (λ k. made_over_on placements p (link_at base k)) (map key_passed links)) x
made_along base placements p [] l x has is entry = absurd (false≢true has)
made_along base placements p (m ∷ ms) l x has is entry =
    which (nat_eq m.from l.from) (nat_eq m.local l.local) refl refl (λ h. made_along base placements p ms l x h is entry) has
  where
    here : List Over
    here = made_over_on placements p (link_at base (key_passed m))

    later : List Over
    later = flat_map (λ k. made_over_on placements p (link_at base k)) (map key_passed ms)

    which : (a b : Bool) → nat_eq m.from l.from ≡ a → nat_eq m.local l.local ≡ b → (has_key ms (key_of l) ≡ true → Contains later x)
        → ((a && b) || has_key ms (key_of l)) ≡ true → Contains (here ++ later) x
    which true true first second behind h =
        let same : key_passed m ≡ key_of l = λ i. (eqb-true m.from l.from first i, eqb-true m.local l.local second i) in
        Contains-append_left here later x (subst (λ o. Contains (made_over_on placements p o) x) (sym (ap (link_at base) same ∙ is)) entry)
    which true false first second behind h = Contains-append_right here later x (behind h)
    which false b first second behind h = Contains-append_right here later x (behind h)

-- If a link is covered before a placement is restored, and isn't afterwards, `made_over` has an entry
-- for it.
pub restoring_covered : RestoringKeepsCovered
restoring_covered base placements p l priority is small covered =
    elim (cases_lt (slice_index l.free priority) (counted (placements ++ p ∷ []) (key_of l) priority)) [
      | inl less ↦
          let more = sum_by_push (bandwidth_on (key_of l) priority) placements p in
          let has = on_route (key_of l) priority p (omega (arith, less, covered, more)) in
          let passes = made placements p l priority (counted placements (key_of l) priority) (bandwidth_on (key_of l) priority p) refl refl covered (omega (arith, less, more)) in
          inr (made_along base placements p p.route l (over_at l priority) has is (named (is_made_over placements p l) l priority small passes))
      | inr enough ↦ inl enough
    ]

-- the entries for the base's links at the keys of these links
abbrev pub entries_of : Database → List Placement → Placement → List Passed → List Over
entries_of base placements p links = flat_map (λ k. made_over_on placements p (link_at base k)) (map key_passed links)

-- In this module, `l` is the link at index i of a path.
module _ (links : List Passed) (i : ℕ) (within : i < length links) (l : Passed) (is : l ≡ slice_index_or links i l) where
  -- One more link is looked at.
  pub entries_of-more : (base : Database) (placements : List Placement) (p : Placement) (o : Option Link) → link_at base (key_passed l) ≡ o
      → entries_of base placements p (take i links) ++ made_over_on placements p o ≡ entries_of base placements p (take (i + 1) links)
  entries_of-more base placements p o found =
      sym (ap (entries_of base placements p) (take_more links i l within ∙ ap (λ (x : Passed). take i links ++ x ∷ []) (sym is))
      ∙ ap (flat_map (λ k. made_over_on placements p (link_at base k))) (map-append key_passed (take i links) (l ∷ []))
      ∙ flat_map-append (λ k. made_over_on placements p (link_at base k)) (map key_passed (take i links)) (key_passed l ∷ [])
      ∙ ap (λ es. entries_of base placements p (take i links) ++ es) (append-nil (made_over_on placements p (link_at base (key_passed l))) ∙ ap (made_over_on placements p) found))

  -- The key of the link is on the path.
  pub has_key-at : has_key links (key_passed l) ≡ true
  has_key-at = ap (λ (x : Passed). has_key links (key_passed x)) is ∙ there links i within
    where
      or_true : (b : Bool) → (b || true) ≡ true
      or_true true = refl
      or_true false = refl

      there : (ls : List Passed) (k : ℕ) → k < length ls → has_key ls (key_passed (slice_index_or ls k l)) ≡ true
      there [] k less = absurd (omega (arith, less))
      there (m ∷ ms) zero less =
          λ j. (nat_eq_equiv.refl m.from j && nat_eq_equiv.refl m.local j) || has_key ms (key_passed m)
      there (m ∷ ms) (suc k) less =
          let x = slice_index_or ms k l in
          ap (λ b. (nat_eq m.from x.from && nat_eq m.local x.local) || b) (there ms k (omega (arith, less)))
          ∙ or_true (nat_eq m.from x.from && nat_eq m.local x.local)
