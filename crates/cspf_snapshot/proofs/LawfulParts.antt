-- If batches have the changes of a snapshot, each batch fits the database of the batches before it.
use Rattle.std.proofs.Common.{◌≡◌, ℕ, suc, ◌+◌, ◌≤◌, Bool, true, false, cond, List, [], ◌∷◌, ◌++◌, length, map, sym, ap, ◌∙◌, arith}
use Rattle.std.specs.Ordering.{nat_cmp, eq_by_cmp}
use Rattle.std.specs.Cmp.{nat_cmp_total}
use Rattle.std.specs.List.{AllByRecursion, IsDistinct}
use Rattle.std.specs.FinSet as set
use Rattle.std.proofs.lemmas.List.Elements.{All-from_recursion}
use Rattle.cspf_model.specs.declared.batch.Change.{Change}
use Rattle.cspf_model.specs.declared.batch.Change.TheVariants.{Put, Remove, Node}
use Rattle.cspf_model.specs.declared.limits.TheConstants.{MOST_CHANGES, MOST_LINKS, MOST_ROUTERS, MOST_MARKS}
use Rattle.cspf_model.specs.Numbered.{NumberedChanges}
use Rattle.cspf_model.specs.Database.{Database, AreAtTheirKeys, link_count, router_count, mark_count}
use Rattle.cspf_model.specs.Changes.{ChangeKey, change_key_cmp, key_changed, changes_of, after_changes, IsPresent, Fits, AreLawfulAfter}
use Rattle.cspf_model.specs.Laws.{RoutersAreCounted}
use Rattle.cspf_snapshot.proofs.FullBatches.{AreShort}
use Rattle.cspf_snapshot.proofs.Parts.{IsPartOf, IsOwnChange, AreOwnChanges, part_after, after_changes-append, link_count-le, mark_count-le}
use Rattle.cspf_snapshot.proofs.RouterCounts.{router_count-le}

-- if `P` holds of each element of two concatenated lists, it holds of each element of the first
-- list
all_front : {X : Type 0} (P : X → Type 0) (xs ys : List X) → AllByRecursion P (xs ++ ys)
    → AllByRecursion P xs
all_front P [] ys all = tt
all_front P (x ∷ xs) ys all = (all.0, all_front P xs ys all.1)

-- if `P` holds of each element of two concatenated lists, it holds of each element of the second
-- list
all_back : {X : Type 0} (P : X → Type 0) (xs ys : List X) → AllByRecursion P (xs ++ ys)
    → AllByRecursion P ys
all_back P [] ys all = all
all_back P (x ∷ xs) ys all = all_back P xs ys all.1

-- no two changes have the same key
abbrev HaveOwnChangeKeys : List Change → Type 0
HaveOwnChangeKeys cs = IsDistinct (eq_by_cmp change_key_cmp) (map key_changed cs)

-- if `P` holds of the key of each change of two concatenated lists, it holds of the key of each
-- change of the first list
keys_front : (P : ChangeKey → Type 0) (bs cs : List Change)
    → AllByRecursion P (map key_changed (bs ++ cs)) → AllByRecursion P (map key_changed bs)
keys_front P [] cs all = tt
keys_front P (b ∷ bs) cs all = (all.0, keys_front P bs cs all.1)

-- if no two changes of two concatenated lists have the same key, no two changes of the first list
-- have the same key
own_front : (bs cs : List Change) → HaveOwnChangeKeys (bs ++ cs) → HaveOwnChangeKeys bs
unfolding IsDistinct
own_front [] cs own = tt
own_front (b ∷ bs) cs own =
    (keys_front (λ k. eq_by_cmp change_key_cmp (key_changed b) k ≡ false) bs cs own.0, own_front bs cs own.1)

-- if no two changes of two concatenated lists have the same key, no two changes of the second list
-- have the same key
own_back : (bs cs : List Change) → HaveOwnChangeKeys (bs ++ cs) → HaveOwnChangeKeys cs
unfolding IsDistinct
own_back [] cs own = own
own_back (b ∷ bs) cs own = own_back bs cs own.1

-- if each change puts a link or marks a router, `IsPresent` holds of each change, because no change
-- is a removal
all_present : (e d : Database) (cs : List Change) → AreOwnChanges d cs
    → AllByRecursion (IsPresent e) cs
all_present e d [] own = tt
all_present e d (Put l ∷ cs) own = (tt, all_present e d cs own.1)
all_present e d (Remove from local ∷ cs) own = absurd own.0
all_present e d (Node router transit ∷ cs) own = (tt, all_present e d cs own.1)

-- the set of a list's numbers has at most as many numbers as the list has elements
pub len-from_list-le : (ns : List ℕ) → set.len (set.from_list {R = nat_cmp} ns) ≤ length ns
len-from_list-le [] = omega (arith, set.len-empty nat_cmp)
len-from_list-le (n ∷ ns) =
    at_most_one_more (set.contains (set.from_list {R = nat_cmp} ns) n) (set.len (set.from_list {R = nat_cmp} ns)) (set.len (set.from_list {R = nat_cmp} (n ∷ ns)))
    (set.len-insert nat_cmp_total (set.from_list {R = nat_cmp} ns) n) (length ns) (len-from_list-le ns)
  where
    at_most_one_more : (b : Bool) (n m : ℕ) → m ≡ cond b n (n + 1) → (most : ℕ) → n ≤ most → m ≤ suc most
    at_most_one_more true n m e most le = omega (arith, e, le)
    at_most_one_more false n m e most le = omega (arith, e, le)

-- The database has at most as many links, routers and marked routers as a table can hold.
pub record IsSmall (d : Database) : Type 0 where
  pub keyed : AreAtTheirKeys d
  pub links : link_count d ≤ MOST_LINKS
  pub routers : router_count d ≤ MOST_ROUTERS
  pub marks : mark_count d ≤ MOST_MARKS

-- In this module, all links of the database `e` are also in the database `d`. The changes of the
-- batch `b`, followed by the changes `cs`, turn `e` into `d`. Each of these changes puts a link of
-- `d` or marks a router.
module _ (counted : RoutersAreCounted) (d : Database) (small : IsSmall d) (e : Database) (b : NumberedChanges) (cs : List Change) (part : IsPartOf e d) (own : AreOwnChanges d (b.changes ++ cs)) (made : after_changes e (b.changes ++ cs) ≡ d) where
  -- the database after the batch `b`
  abbrev next : Database
  next = after_changes e b.changes

  -- the changes `cs` turn the database after the batch into the database `d`
  made_next : after_changes next cs ≡ d
  made_next = sym (after_changes-append e b.changes cs) ∙ made

  -- each change of the batch puts a link of `d` or marks a router
  own_first : AreOwnChanges d b.changes
  own_first = all_front (IsOwnChange d) b.changes cs own

  -- each change of `cs` puts a link of `d` or marks a router
  own_others : AreOwnChanges d cs
  own_others = all_back (IsOwnChange d) b.changes cs own

  -- all links of the database after the batch are in `d`
  part_then : IsPartOf next d
  part_then = part_after e d b.changes part own_first

  -- the batch fits the database `e`
  first_fits : HaveOwnChangeKeys (b.changes ++ cs) → length b.changes ≤ MOST_CHANGES → Fits e b
  first_fits keys short = record {
    short = short;
    once = own_front b.changes cs keys;
    present = All-from_recursion (IsPresent e) b.changes (all_present e d b.changes own_first);
    links = omega (arith, link_count-le next d cs own_others, ap link_count made_next, small.links);
    routers = omega (arith, router_count-le counted next d part_then small.keyed, small.routers);
    marks = omega (arith, mark_count-le next d cs own_others, ap mark_count made_next, small.marks);
  }

-- A table can hold the database `d`, and all links of `e` are also in `d`. Batches of at most 4,096
-- changes turn `e` into `d`. Each of their changes has a different key, and puts a link of `d` or
-- marks a router. Then each batch fits the database of the batches before it.
pub lawful_after : RoutersAreCounted → (d : Database) → IsSmall d → (e : Database) (bs : List NumberedChanges)
    → IsPartOf e d → AreOwnChanges d (changes_of bs) → HaveOwnChangeKeys (changes_of bs)
    → AreShort bs → after_changes e (changes_of bs) ≡ d → AreLawfulAfter e bs
lawful_after counted d small e [] part own keys short made = tt
lawful_after counted d small e (b ∷ bs) part own keys short made = (
  first_fits counted d small e b (changes_of bs) part own made keys short.0,
  lawful_after counted d small (after_changes e b.changes) bs (part_then counted d small e b (changes_of bs) part own made) (own_others counted d small e b (changes_of bs) part own made) (own_back b.changes (changes_of bs) keys) short.1 (made_next counted d small e b (changes_of bs) part own made),
)
