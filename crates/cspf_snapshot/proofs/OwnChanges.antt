-- Each change of a database's snapshot puts a link of this database or marks a router. Such a
-- change is called an own change of the database (`AreOwnChanges`). No two of these changes have
-- the same key.
use Rattle.std.proofs.Common.{◌≡◌, ℕ, false, List, [], ◌∷◌, map, refl}
use Rattle.std.specs.Ordering.{nat_cmp, eq_by_cmp}
use Rattle.std.specs.declared.cmp.Ordering.TheVariants.{Less}
use Rattle.std.specs.List.{AllByRecursion, IsDistinct}
use Rattle.std.specs.List.Sorted.{IsStrictlySortedBy}
use Rattle.cspf_model.specs.declared.link.Link.{Link}
use Rattle.cspf_model.specs.Database.{Database, Key, key_of, key_cmp, IsLinkOf, HaveOwnKeys}
use Rattle.cspf_model.specs.Changes.{change_key_cmp, link_key, mark_key, key_changed}
use Rattle.cspf_snapshot.specs.Snapshots.{marking, changes_making}
use Rattle.cspf_model.proofs.Databases.Keys.{link_apart}
use Rattle.cspf_snapshot.proofs.Parts.{AreOwnChanges}

-- changes that mark routers as without transit are own changes of every database
own_marks : (d : Database) (marks : List ℕ) → AreOwnChanges d (map marking marks)
own_marks d [] = tt
own_marks d (router ∷ marks) = (refl, own_marks d marks)

-- changes that put links of a database and then mark routers are own changes of this database
pub own_changes : (d : Database) (links : List Link) (marks : List ℕ)
    → AllByRecursion (IsLinkOf d) links → AreOwnChanges d (changes_making links marks)
own_changes d [] marks each = own_marks d marks
own_changes d (l ∷ links) marks each = (each.0, own_changes d links marks each.1)

-- if one router address is less than another, the changes that mark the two routers have different
-- keys
mark_below_apart : (router other : ℕ) → nat_cmp router other ≡ Less
    → eq_by_cmp change_key_cmp (mark_key router) (mark_key other) ≡ false
mark_below_apart router other below = rw below refl

-- The address of a router is less than the addresses of other routers. Then the change that marks
-- the router has a different key from the changes that mark the other routers.
apart_above : (router : ℕ) (marks : List ℕ)
    → AllByRecursion (λ other. nat_cmp router other ≡ Less) marks
    → AllByRecursion (λ k. eq_by_cmp change_key_cmp (mark_key router) k ≡ false) (map key_changed (map marking marks))
apart_above router [] above = tt
apart_above router (other ∷ marks) above =
    (mark_below_apart router other above.0, apart_above router marks above.1)

-- changes that mark routers in strictly increasing order have different keys
distinct_marks : (marks : List ℕ) → IsStrictlySortedBy nat_cmp marks
    → IsDistinct (eq_by_cmp change_key_cmp) (map key_changed (map marking marks))
unfolding IsDistinct IsStrictlySortedBy
distinct_marks [] rising = tt
distinct_marks (router ∷ marks) rising =
    (apart_above router marks rising.0, distinct_marks marks rising.1)

-- the key of a change of a link differs from the key of every change that marks a router
apart_from_marks : (k : Key) (marks : List ℕ)
    → AllByRecursion (λ j. eq_by_cmp change_key_cmp (link_key k) j ≡ false) (map key_changed (map marking marks))
apart_from_marks k [] = tt
apart_from_marks k (router ∷ marks) = (link_apart k router, apart_from_marks k marks)

-- The key of a link differs from the keys of other links. Then the change that puts the link has a
-- different key from the changes that put the other links, and from the changes that mark routers.
apart_from_all : (k : Key) (links : List Link) (marks : List ℕ)
    → AllByRecursion (λ j. eq_by_cmp key_cmp k j ≡ false) (map key_of links)
    → AllByRecursion (λ j. eq_by_cmp change_key_cmp (link_key k) j ≡ false) (map key_changed (changes_making links marks))
apart_from_all k [] marks apart = apart_from_marks k marks
apart_from_all k (l ∷ links) marks apart = (apart.0, apart_from_all k links marks apart.1)

-- no two changes of a snapshot have the same key
pub distinct_making : (links : List Link) (marks : List ℕ) → HaveOwnKeys links
    → IsStrictlySortedBy nat_cmp marks
    → IsDistinct (eq_by_cmp change_key_cmp) (map key_changed (changes_making links marks))
unfolding IsDistinct
distinct_making [] marks own rising = distinct_marks marks rising
distinct_making (l ∷ links) marks own rising =
    (apart_from_all (key_of l) links marks own.0, distinct_making links marks own.1 rising)
