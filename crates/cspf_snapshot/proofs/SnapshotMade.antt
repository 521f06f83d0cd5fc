-- If the changes that make a database are cut into batches, the batches are the snapshot of this
-- database.
use Rattle.std.proofs.Common.{◌≡◌, ℕ, ◌+◌, ◌≤◌, List, length, map, sym, ap, subst, ◌∙◌, arith, length-append, Result, Ok, Err, IfOk}
use Rattle.std.specs.List.{IsDistinct}
use Rattle.std.specs.FinMap as finite
use Rattle.std.specs.FinSet as set
use Rattle.std.specs.Ordering.{eq_by_cmp}
use Rattle.std.proofs.lemmas.List.{length-map}
use Rattle.std.proofs.lemmas.List.Elements.{recursion_from_All}
use Rattle.std.proofs.lemmas.Map.Keys.{sorted_from_strictly_increasing}
use Rattle.cspf_model.specs.declared.link.Link.{Link}
use Rattle.cspf_model.specs.declared.batch.Change.TheVariants.{Put}
use Rattle.cspf_model.specs.declared.limits.TheConstants.{MOST_LINKS, MOST_ROUTERS, MOST_MARKS}
use Rattle.cspf_model.specs.Numbered.{NumberedChanges, AreNumberedFrom}
use Rattle.cspf_model.specs.Database.{Database, IsLinkOf, AreLinksOf, HaveOwnKeys, AreAtTheirKeys, router_count}
use Rattle.cspf_db.specs.Index.{links_of}
use Rattle.cspf_model.specs.Changes.{change_key_cmp, key_changed, changes_of, no_links, after_changes}
use Rattle.cspf_model.specs.Laws.{RoutersAreCounted}
use Rattle.cspf_snapshot.specs.Snapshots.{marking, changes_making, AreMarksOf, AreFullButLast, IsSnapshot}
use Rattle.cspf_snapshot.proofs.FullBatches.{short_each, length-changes_of-lt}
use Rattle.cspf_snapshot.proofs.Parts.{AreOwnChanges, none_is_part}
use Rattle.cspf_snapshot.proofs.OwnChanges.{own_changes, distinct_making}
use Rattle.cspf_snapshot.proofs.MadeDatabase.{is_database}
use Rattle.cspf_snapshot.proofs.LawfulParts.{IsSmall, lawful_after, len-from_list-le}

-- `links` are exactly the links of a table whose database is `d`, and `marks` are exactly the
-- routers that this table marks as without transit
pub record AreListsOf (d : Database) (links : List Link) (marks : List ℕ) : Type 0 where
  pub listed : AreLinksOf d links
  pub most : length links ≤ MOST_LINKS
  pub once : HaveOwnKeys links
  pub keyed : AreAtTheirKeys d
  pub few : router_count d ≤ MOST_ROUTERS
  pub sorted : links ≡ links_of d
  pub are_marks : AreMarksOf d marks
  pub few_marks : length marks ≤ MOST_MARKS

-- In this module, the changes put the links of a table, and then mark the routers that the table
-- marks as without transit.
module _ (d : Database) (links : List Link) (marks : List ℕ) (lists : AreListsOf d links marks) where
  -- the table's database has no more links, routers and marked routers than a table can hold
  is_small : IsSmall d
  is_small = record {
    keyed = lists.keyed;
    links = omega (arith, lists.most, ap length lists.sorted, length-map (finite.entries d.links) (λ e. e.1), finite.len-entries d.links);
    routers = lists.few;
    marks = omega (arith, lists.few_marks, ap set.len lists.are_marks.all, len-from_list-le marks);
  }

  -- each of these changes puts a link of the database or marks a router
  are_own : AreOwnChanges d (changes_making links marks)
  are_own = own_changes d links marks (recursion_from_All (IsLinkOf d) links lists.listed.each)

  -- from the empty database, these changes make the table's database
  making : after_changes no_links (changes_making links marks) ≡ d
  making = is_database d links marks are_own lists.listed lists.keyed lists.are_marks

  -- no two of these changes have the same key
  on_own_keys : IsDistinct (eq_by_cmp change_key_cmp) (map key_changed (changes_making links marks))
  on_own_keys =
      distinct_making links marks lists.once (sorted_from_strictly_increasing marks lists.are_marks.rising)

  -- the number of changes is the number of links plus the number of marks
  pub length-changes_making : length (changes_making links marks) ≡ length links + length marks
  length-changes_making =
      omega (arith, length-append (map Put links) (map marking marks), length-map links Put, length-map marks marking)

  -- there are at most `MOST_LINKS + MOST_MARKS` changes
  pub few_changes : length (changes_making links marks) ≤ MOST_LINKS + MOST_MARKS
  few_changes = omega (arith, length-changes_making, lists.most, lists.few_marks)

  -- batches are a snapshot of the table's database if they have these changes, are numbered from 1,
  -- and are all full except the last one
  pub is_snapshot : RoutersAreCounted → (batches : List NumberedChanges)
      → changes_of batches ≡ changes_making links marks → AreNumberedFrom 1 batches
      → AreFullButLast batches → IsSnapshot d batches
  is_snapshot counted batches changes numbers full = record {
    marks = marks;
    are_marks = lists.are_marks;
    changes = changes ∙ ap (λ ls. changes_making ls marks) lists.sorted;
    full = full;
    numbers = numbers;
    few = omega (arith, length-changes_of-lt batches full, ap length changes, few_changes);
    lawful = lawful_after counted d is_small no_links batches (none_is_part d)
        (subst (AreOwnChanges d) (sym changes) are_own)
        (subst (λ cs. IsDistinct (eq_by_cmp change_key_cmp) (map key_changed cs)) (sym changes) on_own_keys)
        (short_each batches full) (ap (after_changes no_links) changes ∙ making);
    database = ap (after_changes no_links) changes ∙ making;
  }

-- Three facts about a value imply a fourth fact. If the three facts hold of the value of a result,
-- the fourth fact also holds of this value.
pub if_ok_by : {A E : Type 0} (P Q S R : A → Type 0) → ((a : A) → P a → Q a → S a → R a)
    → (r : Result A E) → IfOk r P → IfOk r Q → IfOk r S → IfOk r R
if_ok_by P Q S R gives (Ok a) p q s = gives a p q s
if_ok_by P Q S R gives (Err e) p q s = tt
