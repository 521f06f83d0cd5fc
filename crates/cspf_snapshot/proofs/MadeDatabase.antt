-- The changes of a database's snapshot make this database.
use Rattle.std.proofs.Common.{◌≡◌, ℕ, ◌||◌, Bool, true, false, Option, Some, None, is_some, List, [], ◌∷◌, map, refl, sym, ap, ◌∙◌}
use Rattle.std.specs.Ordering.{nat_cmp, eq_by_cmp}
use Rattle.std.specs.Cmp.{nat_cmp_total}
use Rattle.std.specs.List.{AllByRecursion, list_any}
use Rattle.std.specs.FinMap.{same_map}
use Rattle.std.specs.FinSet as set
use Rattle.std.proofs.lemmas.List.Elements.{All-contains, All-from_recursion}
use Rattle.cspf_model.specs.declared.link.Link.{Link}
use Rattle.cspf_model.specs.declared.batch.Change.TheVariants.{Put}
use Rattle.cspf_model.specs.Database.{Database, Key, key_of, link_at, AreLinksOf, AreAtTheirKeys}
use Rattle.cspf_model.specs.Changes.{no_links, after_change, after_changes}
use Rattle.cspf_snapshot.specs.Snapshots.{marking, changes_making, AreMarksOf}
use Rattle.cspf_model.proofs.Databases.Keys.{keys_total, keys_antisymmetric}
use Rattle.cspf_snapshot.proofs.Parts.{AreOwnChanges, none_is_part, part_after, has_link_after, has_link_put}

-- after changes that put links, the database has a link at the key of each of these links
has_links : (e d : Database) (links : List Link) (marks : List ℕ)
    → AreOwnChanges d (changes_making links marks)
    → AllByRecursion (λ l. is_some (link_at (after_changes e (changes_making links marks)) (key_of l)) ≡ true) links
has_links e d [] marks own = tt
has_links e d (l ∷ links) marks own = (
  has_link_after (after_change e (Put l)) d (changes_making links marks) (key_of l) own.1 (has_link_put e l),
  has_links (after_change e (Put l)) d links marks own.1,
)

-- Two options are equal if two facts hold. The value of the first option is also the value of the
-- second. The first option has a value whenever the second one has a value.
same_option : (o p : Option Link) → ((l : Link) → o ≡ Some l → p ≡ Some l)
    → ((l : Link) → p ≡ Some l → is_some o ≡ true) → o ≡ p
same_option None None part has = refl
same_option None (Some l) part has = absurd (none_there (has l refl))
  where
    none_there : false ≡ true → ⊥
    none_there e = cc
same_option (Some l) p part has = sym (part l refl)

-- in the disjunction of three tests, the first and the second may be swapped
or_moved : (a b c : Bool) → ((a || b) || c) ≡ (b || (a || c))
or_moved true true c = refl
or_moved true false c = refl
or_moved false b c = refl

-- the disjunction of a test and `false` is the test itself
or_none : (a : Bool) → a ≡ (a || false)
or_none true = refl
or_none false = refl

-- after changes that mark routers, a router is marked exactly if it was marked before, or one of
-- these changes marks it
contains-marking : (e : Database) (marks : List ℕ) (q : ℕ)
    → set.contains (after_changes e (map marking marks)).marks q
    ≡ (set.contains e.marks q || list_any (eq_by_cmp nat_cmp q) marks)
contains-marking e [] q = or_none (set.contains e.marks q)
contains-marking e (router ∷ marks) q =
    contains-marking (after_change e (marking router)) marks q
    ∙ ap (λ b. b || list_any (eq_by_cmp nat_cmp q) marks) (set.contains-insert nat_cmp_total e.marks router q)
    ∙ or_moved (eq_by_cmp nat_cmp q router) (set.contains e.marks q) (list_any (eq_by_cmp nat_cmp q) marks)

-- after changes that put links and then mark routers, a router is marked exactly if it was marked
-- before, or one of these changes marks it
contains-making : (e : Database) (links : List Link) (marks : List ℕ) (q : ℕ)
    → set.contains (after_changes e (changes_making links marks)).marks q
    ≡ (set.contains e.marks q || list_any (eq_by_cmp nat_cmp q) marks)
contains-making e [] marks q = contains-marking e marks q
contains-making e (l ∷ links) marks q = contains-making (after_change e (Put l)) links marks q

-- In this module, the changes put all links of the database `d`, and mark all routers that `d`
-- marks as without transit.
module _ (d : Database) (links : List Link) (marks : List ℕ) (own : AreOwnChanges d (changes_making links marks)) (listed : AreLinksOf d links) (keyed : AreAtTheirKeys d) (are_marks : AreMarksOf d marks) where
  -- the database that these changes make from the empty database
  abbrev made : Database
  made = after_changes no_links (changes_making links marks)

  -- if `d` has a link at a key, the made database also has a link at this key
  is_made : (k : Key) (l : Link) → link_at d k ≡ Some l → is_some (link_at made k) ≡ true
  is_made k l is =
      let same = keyed k l is in
      ap (λ j. is_some (link_at made j)) (sym same)
      ∙ All-contains (λ m. is_some (link_at made (key_of m)) ≡ true) links l
      (All-from_recursion (λ m. is_some (link_at made (key_of m)) ≡ true) links (has_links no_links d links marks own))
      (listed.whole l (ap (link_at d) same ∙ is))

  -- the made database has the links of `d`
  links_made : made.links ≡ d.links
  links_made =
      same_map keys_total keys_antisymmetric made.links d.links
      (λ k. same_option (link_at made k) (link_at d k) (part_after no_links d (changes_making links marks) (none_is_part d) own k) (is_made k))

  -- the made database marks the same routers as `d`
  marks_made : made.marks ≡ d.marks
  marks_made =
      set.same_set nat_cmp_total set.nat_cmp-IsAntisymmetric made.marks d.marks
      (λ q. contains-making no_links links marks q
      ∙ ap (λ b. b || list_any (eq_by_cmp nat_cmp q) marks) (set.contains-empty nat_cmp q)
      ∙ sym (set.contains-from_list nat_cmp_total marks q)
      ∙ ap (λ s. set.contains s q) (sym are_marks.all))

  -- the made database is `d`
  pub is_database : made ≡ d
  is_database = λ i. record { links = links_made i; marks = marks_made i }
