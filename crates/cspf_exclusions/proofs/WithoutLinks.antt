-- The database without the excluded links.
use Rattle.std.proofs.Common.{◌≡◌, ◌↔◌, ℕ, Bool, IsTrue, Option, Some, None, List, [], ◌∷◌, inl, inr, refl, sym, ap, subst, ◌∙◌, arith}
use Rattle.std.specs.List.{AllByRecursion, Contains}
use Rattle.std.specs.FinSet as set
use Rattle.std.proofs.lemmas.List.Elements.{All-contains, recursion_from_All}
use Rattle.cspf_model.specs.declared.link.Link.{Link}
use Rattle.cspf_model.specs.declared.request.Request.{Request}
use Rattle.cspf_model.specs.declared.batch.Change.{Change}
use Rattle.cspf_model.specs.Database.{Database, Key, key_of, link_at, IsLinkOf, IsReverse, AreAtTheirKeys}
use Rattle.cspf_model.specs.Changes.{after_changes}
use Rattle.cspf_model.specs.Admissible.{IsAdmissible}
use Rattle.cspf_model.proofs.Databases.LastChanges.{same_database}
use Rattle.cspf_exclusions.specs.declared.exclusion.Exclusion.{Exclusion}
use Rattle.cspf_exclusions.specs.Exclusions.{IsExcluded, IsExcludedRouter, IsWithout}
use Rattle.cspf_exclusions.specs.Removals.{AreRemovals, IsExcludedAmong, IsRemoval, removal_of}
use Rattle.cspf_exclusions.specs.Laws.{IsExcludedWithReverse, AreWalksWithout, IsWholeWithoutNone, OneDatabaseWithout}
use Rattle.cspf_exclusions.proofs.Removed.{IsRemove, removed, kept, marks_kept}

-- Two databases in which each link is at its own key, with the same links and marks, are equal.
same_links : (d e : Database) → AreAtTheirKeys d → AreAtTheirKeys e → ((l : Link) → IsLinkOf d l ↔ IsLinkOf e l)
    → (k : Key) → link_at d k ≡ link_at e k
same_links d e keyed also same k = by (link_at d k) (link_at e k) refl refl
  where
    to_e : (l : Link) → link_at d k ≡ Some l → link_at e k ≡ Some l
    to_e l is =
        let at = keyed k l is in
        subst (λ j. link_at e j ≡ Some l) at ((same l).0 (subst (λ j. link_at d j ≡ Some l) (sym at) is))

    to_d : (l : Link) → link_at e k ≡ Some l → link_at d k ≡ Some l
    to_d l is =
        let at = also k l is in
        subst (λ j. link_at d j ≡ Some l) at ((same l).1 (subst (λ j. link_at e j ≡ Some l) (sym at) is))

    by : (a b : Option Link) → link_at d k ≡ a → link_at e k ≡ b → link_at d k ≡ link_at e k
    by (Some l) b is_a is_b = is_a ∙ sym (to_e l is_a)
    by None (Some m) is_a is_b = to_d m is_b ∙ sym is_b
    by None None is_a is_b = is_a ∙ sym is_b

pub one_without : OneDatabaseWithout
one_without d e f parts is also =
    same_database e f
    (same_links e f is.keyed also.keyed (λ l. ((λ has. (also.links l).1 ((is.links l).0 has)), λ has. (is.links l).1 ((also.links l).0 has))))
    (λ q. ap (λ m. set.contains m q) (is.marks ∙ sym also.marks))

-- A link is excluded exactly if its reverse is.
to_reverse : (d : Database) (parts : List Exclusion) (l r : Link) → IsReverse l r → IsExcluded d parts l → IsExcluded d parts r
to_reverse d parts l r back (inl (inl x)) = inl (inr (rw back.to x))
to_reverse d parts l r back (inl (inr x)) = inl (inl (rw back.from x))
to_reverse d parts l r back (inr (inl x)) = inr (inr (rw back.remote x))
to_reverse d parts l r back (inr (inr x)) = inr (inl (rw back.local x))

pub reversed : (l r : Link) → IsReverse l r → IsReverse r l
reversed l r back = record { from = sym back.to; local = sym back.remote; to = sym back.from; remote = sym back.local }

pub with_reverse : IsExcludedWithReverse
with_reverse d parts l r back = (to_reverse d parts l r back, to_reverse d parts r l (reversed l r back))

module _ (d e : Database) (q : Request) (parts : List Exclusion) (is : IsWithout d parts e) where
  admissible_there : (l : Link) → IsAdmissible e q l → IsAdmissible d q l × ¬ IsExcluded d parts l
  admissible_there l a =
      let link = (is.links l).0 a.link in
      let back = a.usable.reverse in (
        record {
          link = link.0;
          usable = record { admitted = a.usable.admitted; reverse = (back.0, ((is.links back.0).0 back.1).0, back.2) };
        },
        link.1,
      )

  admissible_here : (l : Link) → IsAdmissible d q l → ¬ IsExcluded d parts l → IsAdmissible e q l
  admissible_here l a free =
      let back = a.usable.reverse in
      record {
        link = (is.links l).1 (a.link, free);
        usable = record {
          admitted = a.usable.admitted;
          reverse = (back.0, (is.links back.0).1 (back.1, λ x. free (to_reverse d parts back.0 l (reversed l back.0 back.2) x)), back.2);
        };
      }

  all_there : (walk : List Link) → AllByRecursion (IsAdmissible e q) walk
      → AllByRecursion (IsAdmissible d q) walk × AllByRecursion (λ l. ¬ IsExcluded d parts l) walk
  all_there [] all = (tt, tt)
  all_there (l ∷ walk) all =
      let here = admissible_there l all.0 in
      let more = all_there walk all.1 in
      ((here.0, more.0), (here.1, more.1))

  all_here : (walk : List Link) → AllByRecursion (IsAdmissible d q) walk → AllByRecursion (λ l. ¬ IsExcluded d parts l) walk
      → AllByRecursion (IsAdmissible e q) walk
  all_here [] all free = tt
  all_here (l ∷ walk) all free = (admissible_here l all.0 free.0, all_here walk all.1 free.1)

pub walks_without : AreWalksWithout
walks_without d e q parts walk is = (
  (λ there.
      let all = all_there d e q parts is walk there.links in
      (record { links = all.0; joined = there.joined; transit = rw (← is.marks) there.transit }, all.1)),
  λ here.
      record { links = all_here d e q parts is walk here.0.links here.1; joined = here.0.joined; transit = rw is.marks here.0.transit },
)

-- Nothing is excluded without exclusions.
none_excluded : (d : Database) (l : Link) → ¬ IsExcluded d [] l
none_excluded d l (inl (inl x)) = absurd (let below = x.1.1 in omega arith)
none_excluded d l (inl (inr x)) = absurd (let below = x.1.1 in omega arith)
none_excluded d l (inr (inl x)) = absurd (let below = x.1.1 in omega arith)
none_excluded d l (inr (inr x)) = absurd (let below = x.1.1 in omega arith)

whole_without_none : (d : Database) → AreAtTheirKeys d → IsWithout d [] d
whole_without_none d keyed = record {
  links = λ l. ((λ has. (has, none_excluded d l)), λ has. has.0);
  keyed = keyed;
  marks = refl;
}

pub no_difference : IsWholeWithoutNone
no_difference d keyed e = (
  (λ is. one_without d e d [] is (whole_without_none d keyed)),
  λ same. subst (IsWithout d []) (sym same) (whole_without_none d keyed),
)

-- After all excluded links are removed, the database is without them.
pub without_removed : (d : Database) (parts : List Exclusion) (cs : List Change) → AreRemovals d parts cs
    → IsWithout d parts (after_changes d cs)
without_removed d parts cs are = record {
  links = λ l. (there l, λ has. kept cs d removes (key_of l) l has.0 (λ gone. has.1 (excluded l has.0 gone)));
  keyed = λ k l is. are.keyed k l (removed cs d removes k l is).0;
  marks = marks_kept cs d removes;
}
  where
    is_remove : (c : Change) → IsRemoval d parts c → IsRemove c
    is_remove c is = subst IsRemove (sym is.3) tt

    by_list : (rest : List Change) → AllByRecursion (IsRemoval d parts) rest → AllByRecursion IsRemove rest
    by_list [] all = tt
    by_list (c ∷ rest) all = (is_remove c all.0, by_list rest all.1)

    removes : AllByRecursion IsRemove cs
    removes = by_list cs (recursion_from_All (IsRemoval d parts) cs are.each)

    excluded : (l : Link) → IsLinkOf d l → Contains cs (removal_of l) → IsExcluded d parts l
    excluded l is gone =
        let one = All-contains (IsRemoval d parts) cs (removal_of l) are.each gone in
        let key : key_of l ≡ key_of one.0 = cc one.3 in
        let same : Some l ≡ Some one.0 = sym is ∙ ap (link_at d) key ∙ one.1 in
        let here : one.0 ≡ l = cc same in
        subst (IsExcluded d parts) here one.2

    there : (l : Link) → IsLinkOf (after_changes d cs) l → IsLinkOf d l × ¬ IsExcluded d parts l
    there l is =
        let had = removed cs d removes (key_of l) l is in
        (had.0, λ x. had.1 (are.whole l had.0 x))

-- The test of a link by the list of the excluded routers is a test whether the link is excluded.
pub excluded_among : (d : Database) (parts : List Exclusion) (routers : List ℕ) (l : Link) (b : Bool) → ((r : ℕ) → Contains routers r ↔ IsExcludedRouter d parts r)
    → (IsTrue b ↔ IsExcludedAmong parts routers l) → IsTrue b ↔ IsExcluded d parts l
excluded_among d parts routers l b same is = ((λ yes. to (is.0 yes)), λ x. is.1 (from x))
  where
    to : IsExcludedAmong parts routers l → IsExcluded d parts l
    to (inl (inl x)) = inl (inl ((same l.from).0 x))
    to (inl (inr x)) = inl (inr ((same l.to).0 x))
    to (inr x) = inr x

    from : IsExcluded d parts l → IsExcludedAmong parts routers l
    from (inl (inl x)) = inl (inl ((same l.from).1 x))
    from (inl (inr x)) = inl (inr ((same l.to).1 x))
    from (inr x) = inr x
