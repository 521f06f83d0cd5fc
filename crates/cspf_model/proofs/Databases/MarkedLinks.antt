-- The links of a database after changes, and the routers that are then marked as without transit.
use Rattle.std.proofs.Common.{◌≡◌, ℕ, List, [], ◌∷◌, refl, sym, ap, ◌∙◌, rules}
use Rattle.std.specs.Ordering.{nat_cmp}
use Rattle.std.specs.FinMap as finite
use Rattle.std.specs.FinMap.{FinMap}
use Rattle.std.specs.FinSet as set
use Rattle.cspf_model.specs.declared.link.Link.{Link}
use Rattle.cspf_model.specs.declared.batch.Change.{Change}
use Rattle.cspf_model.specs.Database.{Database, key_cmp, ends_of, link_count, router_count, mark_count}
use Rattle.cspf_model.specs.Changes.{after_change, after_changes}
use Rattle.cspf_model.specs.Lemmas.LinkChanges.{relinked, all_relinked}
use Rattle.cspf_model.specs.Lemmas.MarkChanges.{marked, all_marked}
use Rattle.cspf_model.specs.Lemmas.LinkRows.{database_of, marks_in, marked_database}

-- If the databases `d` and `e` have the same links, `after_change` makes from `d` the same links as
-- `relinked` makes from `e`.
one_relinked : (d e : Database) (c : Change) → d.links ≡ e.links → (after_change d c).links ≡ (relinked e c).links
one_relinked d e c same = search rules

-- If the databases `d` and `e` have the same links, `after_changes` makes from `d` the same links
-- as `all_relinked` makes from `e`.
pub links-after_changes : (d e : Database) (cs : List Change) → d.links ≡ e.links → (after_changes d cs).links ≡ (all_relinked e cs).links
links-after_changes d e [] same = same
links-after_changes d e (c ∷ cs) same = links-after_changes (after_change d c) (relinked e c) cs (one_relinked d e c same)

-- `marked` computes which routers are marked as without transit after a change.
one_marked : (d : Database) (c : Change) → (after_change d c).marks ≡ marked d.marks c
one_marked d c = search rules

-- `all_marked` computes which routers are marked as without transit after changes.
pub marks-after_changes : (d : Database) (cs : List Change) → (after_changes d cs).marks ≡ all_marked d.marks cs
marks-after_changes d [] = refl
marks-after_changes d (c ∷ cs) = marks-after_changes (after_change d c) cs ∙ ap (λ m. all_marked m cs) (one_marked d c)

-- In this part, changes act on the database with the links in `rows`, in which the routers in
-- `marks` are marked as without transit.
module _ (rows : List Link) (marks : List ℕ) (cs : List Change) where
  -- After the changes, this database has the same links as if no router were marked. `all_relinked`
  -- gives these links.
  pub links_changed : (after_changes (marked_database rows marks) cs).links ≡ (all_relinked (database_of rows) cs).links
  links_changed = links-after_changes (marked_database rows marks) (database_of rows) cs refl

  pub links_counted : link_count (all_relinked (database_of rows) cs) ≡ link_count (after_changes (marked_database rows marks) cs)
  links_counted = ap (λ (m : FinMap key_cmp Link). finite.len m) (sym links_changed)

  pub routers_counted : router_count (all_relinked (database_of rows) cs) ≡ router_count (after_changes (marked_database rows marks) cs)
  routers_counted = ap (λ (m : FinMap key_cmp Link). set.len (set.from_list {R = nat_cmp} (ends_of (finite.values m)))) (sym links_changed)

  pub marks_counted : set.len (all_marked (marks_in marks) cs) ≡ mark_count (after_changes (marked_database rows marks) cs)
  marks_counted = ap set.len (sym (marks-after_changes (marked_database rows marks) cs))

-- Suppose that `new` makes a database with the links that the changes leave, and that `more` lists
-- the routers that are marked after the changes. Then `new` and `more` together make the database
-- after the changes.
pub marked_after : (rows new : List Link) (marks more : List ℕ) (cs : List Change) → database_of new ≡ all_relinked (database_of rows) cs → marks_in more ≡ all_marked (marks_in marks) cs
    → marked_database new more ≡ after_changes (marked_database rows marks) cs
marked_after rows new marks more cs made h2 = search (rules, database_of, links_changed, marked, marked_database, marks-after_changes, marks_in)
