-- The test `is_fitting` is true exactly if the batch fits.
use Rattle.std.proofs.Common.{◌≡◌, ℕ, ◌≤◌, Bool, false, not, cond, nat_le, List, [], ◌∷◌, length, map, refl, ap, Decides, rules}
use Rattle.std.specs.List.{list_all, IsDistinct, AllByRecursion}
use Rattle.std.specs.Ordering.{eq_by_cmp}
use Rattle.std.proofs.lemmas.Bool.{leb-true, le-leb}
use Rattle.std.proofs.lemmas.Bool.Decides.{not_from_Decides, Decides-and, Decides-like, Decides-by_and}
use Rattle.cspf_model.specs.declared.limits.TheConstants.{MOST_CHANGES, MOST_LINKS, MOST_ROUTERS, MOST_MARKS}
use Rattle.cspf_model.specs.declared.batch.Change.{Change}
use Rattle.cspf_model.specs.Numbered.{NumberedChanges}
use Rattle.cspf_model.specs.Database.{Database, link_count, router_count, mark_count}
use Rattle.cspf_model.specs.Changes.{ChangeKey, change_key_cmp, key_changed, after_changes, IsPresent, Fits}
use Rattle.cspf_publish.specs.BatchAbsorption.{are_distinct, is_present, is_fitting, database_with}

not-Decides : (b : Bool) → Decides (not b) (b ≡ false)
not-Decides b = search rules

nat_le-Decides : (a b : ℕ) → Decides (nat_le a b) (a ≤ b)
nat_le-Decides a b = (leb-true a b, le-leb a b)

-- the test is true exactly if the key differs from each of the other keys
other_keys-Decides : (k : ChangeKey) (ks : List ChangeKey)
    → Decides (list_all (λ j. not (eq_by_cmp change_key_cmp k j)) ks) (AllByRecursion (λ j. eq_by_cmp change_key_cmp k j ≡ false) ks)
other_keys-Decides k [] = (λ _. tt, λ _. refl)
other_keys-Decides k (j ∷ js) = Decides-and (not (eq_by_cmp change_key_cmp k j)) _ (not-Decides (eq_by_cmp change_key_cmp k j)) (other_keys-Decides k js)

are_distinct-Decides : (ks : List ChangeKey) → Decides (are_distinct ks) (IsDistinct (eq_by_cmp change_key_cmp) ks)
unfolding IsDistinct
are_distinct-Decides [] = (λ _. tt, λ _. refl)
are_distinct-Decides (k ∷ ks) = Decides-and _ (are_distinct ks) (other_keys-Decides k ks) (are_distinct-Decides ks)

is_present-Decides : (d : Database) (c : Change) → Decides (is_present d c) (IsPresent d c)
is_present-Decides d c = search rules

is_fitting-Decides : (d : Database) (b : NumberedChanges) → Decides (is_fitting d b) (Fits d b)
is_fitting-Decides d b =
    let present = Decides-by_and (is_present d) (IsPresent d) (list_all (is_present d)) (is_present-Decides d) refl (λ _ _. refl) b.changes in
    let all = Decides-and _ _ (nat_le-Decides (length b.changes) MOST_CHANGES)
    (Decides-and _ _ (are_distinct-Decides (map key_changed b.changes))
    (Decides-and _ _ present
    (Decides-and _ _ (nat_le-Decides (link_count (after_changes d b.changes)) MOST_LINKS)
    (Decides-and _ _ (nat_le-Decides (router_count (after_changes d b.changes)) MOST_ROUTERS) (nat_le-Decides (mark_count (after_changes d b.changes)) MOST_MARKS))))) in
    Decides-like (is_fitting d b)
    (λ p. record { short = p.0; once = p.1.0; present = p.1.1.0; links = p.1.1.1.0; routers = p.1.1.1.1.0; marks = p.1.1.1.1.1 })
    (λ (f : Fits d b). (f.short, (f.once, (f.present, (f.links, (f.routers, f.marks)))))) all

pub database_with-Fits : (d : Database) (b : NumberedChanges) → Fits d b → database_with d b ≡ after_changes d b.changes
database_with-Fits d b f = ap (λ t. cond t (after_changes d b.changes) d) ((is_fitting-Decides d b).1 f)

-- If a database has the batch's changes when the batch fits, and is unchanged when the batch
-- doesn't fit, it is `database_with`.
pub is_database_with : (d e : Database) (b : NumberedChanges)
    → (Fits d b → e ≡ after_changes d b.changes) → ((¬ Fits d b) → e ≡ d) → e ≡ database_with d b
is_database_with d e b fits unfit = search (rules, is_fitting-Decides, not_from_Decides)
