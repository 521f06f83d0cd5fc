-- The last change with a key decides which link the database has at this key.
use Rattle.std.proofs.Common.{◌≡◌, ℕ, ◌||◌, ◌&&◌, Bool, true, false, not, cond, Option, Some, None, List, [], ◌∷◌, ◌++◌, reverse, find, refl, sym, ap, ◌∙◌, append_assoc, rules, arith}
use Rattle.std.proofs.lemmas.Grind.{common_steps}
use Rattle.std.specs.Ordering.{nat_cmp, eq_by_cmp, is_eq, ordering_then}
use Rattle.std.specs.declared.cmp.Ordering.{Ordering}
use Rattle.std.specs.declared.cmp.Ordering.TheVariants.{Equal}
use Rattle.std.specs.Cmp.{nat_cmp_total}
use Rattle.std.specs.FinMap.{get-empty, get-insert, get-remove, same_map}
use Rattle.std.specs.FinSet as set
use Rattle.std.proofs.lemmas.List.{reverse-append, append-nil}
use Rattle.cspf_model.specs.declared.link.Link.{Link}
use Rattle.cspf_model.specs.declared.batch.Change.{Change}
use Rattle.cspf_model.specs.declared.batch.Change.TheVariants.{Put, Remove, Node}
use Rattle.cspf_model.specs.Numbered.{NumberedChanges}
use Rattle.cspf_model.specs.Database.{Database, Key, key_of, key_cmp, link_at, AreAtTheirKeys}
use Rattle.cspf_model.specs.Changes.{ChangeKey, change_key_cmp, link_key, mark_key, key_changed, link_left, mark_left, last_on, link_after, mark_after, changes_of, no_links, after_change, after_changes, database_after}
use Rattle.cspf_model.specs.Laws.{LastChangeDecides, OneDatabase, OneMoreBatch}
use Rattle.cspf_model.proofs.Databases.Keys.{keys_total, keys_antisymmetric, keys_same, link_apart, mark_apart}

-- After a change with the key `k`, the database has at `k` the link that the change puts, or no
-- link if the change is a removal. After a change with another key, the database has the same link
-- at `k` as before.
pub link_at-after_change : (d : Database) (c : Change) (k : Key)
    → link_at (after_change d c) k ≡ cond (eq_by_cmp change_key_cmp (link_key k) (key_changed c)) (link_left c) (link_at d k)
link_at-after_change d c k = search (rules, get-insert, get-remove, keys_total, link_apart)

-- If the second of two comparisons gives `Equal`, `ordering_then` of both gives `Equal` exactly if
-- the first comparison gives `Equal`.
pub tied_alone : (o : Ordering) → is_eq o ≡ is_eq (ordering_then o Equal)
tied_alone o = search rules

-- `tie` says whether a change sets the transit of a certain router. If it does, the router is
-- marked after the change exactly if the change takes the transit away. Otherwise the router is
-- marked exactly if it was marked before the change.
marked_by : (transit tie before : Bool)
    → cond transit (not tie && before) (tie || before) ≡ cond tie (not transit) before
marked_by transit tie before = search rules

-- After a change of the transit of `router`, `router` is marked as without transit exactly if the
-- change takes the transit away. Any other router is marked exactly if it was marked before.
pub after_mark : (marks : set.FinSet nat_cmp) (router q : ℕ) (transit : Bool)
    → set.contains (cond transit (set.remove marks router) (set.insert marks router)) q
    ≡ cond (eq_by_cmp nat_cmp q router) (not transit) (set.contains marks q)
after_mark marks router q true =
    set.contains-remove nat_cmp_total marks router q
    ∙ marked_by true (eq_by_cmp nat_cmp q router) (set.contains marks q)
after_mark marks router q false =
    set.contains-insert nat_cmp_total marks router q
    ∙ marked_by false (eq_by_cmp nat_cmp q router) (set.contains marks q)

-- After a change of its transit, a router is marked as without transit exactly if the change takes
-- the transit away. After any other change, the router is marked exactly if it was marked before.
contains-after_change : (d : Database) (c : Change) (q : ℕ)
    → set.contains (after_change d c).marks q
    ≡ cond (eq_by_cmp change_key_cmp (mark_key q) (key_changed c)) (mark_left c) (set.contains d.marks q)
contains-after_change d (Put l) q =
    ap (λ b. cond b false (set.contains d.marks q)) (sym (mark_apart q (key_of l)))
contains-after_change d (Remove from local) q =
    ap (λ b. cond b false (set.contains d.marks q)) (sym (mark_apart q (from, local)))
contains-after_change d (Node router transit) q =
    after_mark d.marks router q transit
    ∙ ap (λ b. cond b (not transit) (set.contains d.marks q)) (tied_alone (nat_cmp q router))

-- The later change, or the earlier change if there is no later one.
later_or : Option Change → Option Change → Option Change
later_or None earlier = earlier
later_or (Some c) earlier = Some c

-- If a search of a list finds a change, the search finds the same change after another change is
-- appended. If it finds none, the search of the longer list finds the appended change, if this
-- change passes the test.
find-push : (p : Change → Bool) (cs : List Change) (c : Change)
    → find p (cs ++ c ∷ []) ≡ later_or (find p cs) (cond (p c) (Some c) None)
unfolding later_or
find-push p [] c = refl
find-push p (b ∷ cs) c =
    elim (p b) as (λ t. cond t (Some b) (find p (cs ++ c ∷ [])) ≡ later_or (cond t (Some b) (find p cs)) (cond (p c) (Some c) None)) [ true ↦ refl | false ↦ find-push p cs c ]

-- The change `c` is put in front of a list of changes. If the list has a change with the key `k`,
-- the last such change stays the last. Otherwise `c` is the last change with the key `k`, if `c`
-- has this key.
last_on-cons : (k : ChangeKey) (c : Change) (cs : List Change)
    → last_on k (c ∷ cs) ≡ later_or (last_on k cs) (cond (eq_by_cmp change_key_cmp k (key_changed c)) (Some c) None)
last_on-cons k c cs = grind (arith, common_steps, find, find-push, reverse, reverse-append)

-- The change `c` is put in front of a list of changes. If the list has a change with a key, the
-- last such change still decides which link the database has at the key. Otherwise `c` decides it,
-- if `c` has the key.
link_after-later_or : (o : Option Change) (t : Bool) (c : Change) (before : Option Link)
    → link_after (later_or o (cond t (Some c) None)) before ≡ link_after o (cond t (link_left c) before)
unfolding later_or
link_after-later_or None true c before = refl
link_after-later_or o t c before = refl

-- The change `c` is put in front of a list of changes. If the list has a change of a router's
-- transit, the last such change still decides whether the router is marked as without transit.
-- Otherwise `c` decides it, if `c` changes this router's transit.
mark_after-later_or : (o : Option Change) (t : Bool) (c : Change) (before : Bool)
    → mark_after (later_or o (cond t (Some c) None)) before ≡ mark_after o (cond t (mark_left c) before)
unfolding later_or
mark_after-later_or None true c before = refl
mark_after-later_or o t c before = refl

-- After changes, the last change with a key decides which link the database has at this key, or
-- that it has none. If no change has this key, the database has the same link at the key as before.
pub link_at-after_changes : (d : Database) (cs : List Change) (k : Key)
    → link_at (after_changes d cs) k ≡ link_after (last_on (link_key k) cs) (link_at d k)
link_at-after_changes d [] k = refl
link_at-after_changes d (c ∷ cs) k =
    link_at-after_changes (after_change d c) cs k
    ∙ ap (link_after (last_on (link_key k) cs)) (link_at-after_change d c k)
    ∙ sym
    (ap (λ o. link_after o (link_at d k)) (last_on-cons (link_key k) c cs)
    ∙ link_after-later_or (last_on (link_key k) cs) (eq_by_cmp change_key_cmp (link_key k) (key_changed c)) c (link_at d k))

-- After changes, a router is marked as without transit exactly if the last change of its transit
-- takes the transit away. If no change sets the router's transit, the router is marked exactly if
-- it was marked before.
marked-after_changes : (d : Database) (cs : List Change) (q : ℕ)
    → set.contains (after_changes d cs).marks q ≡ mark_after (last_on (mark_key q) cs) (set.contains d.marks q)
marked-after_changes d [] q = refl
marked-after_changes d (c ∷ cs) q =
    marked-after_changes (after_change d c) cs q
    ∙ ap (mark_after (last_on (mark_key q) cs)) (contains-after_change d c q)
    ∙ sym
    (ap (λ o. mark_after o (set.contains d.marks q)) (last_on-cons (mark_key q) c cs)
    ∙ mark_after-later_or (last_on (mark_key q) cs) (eq_by_cmp change_key_cmp (mark_key q) (key_changed c)) c (set.contains d.marks q))

-- After a list of batches, the last change with a key decides which link the database has at this
-- key, or that it has none. The last change of a router's transit decides whether the router is
-- marked as without transit.
pub last_decides : LastChangeDecides
last_decides batches = record {
  at = λ k. link_at-after_changes no_links (changes_of batches) k
      ∙ ap (link_after (last_on (link_key k) (changes_of batches))) (get-empty key_cmp k);
  marked = λ router. marked-after_changes no_links (changes_of batches) router
      ∙ ap (mark_after (last_on (mark_key router) (changes_of batches))) (set.contains-empty nat_cmp router);
}

-- Two databases are equal if they have the same links and mark the same routers as without transit.
pub same_database : (d e : Database) → ((k : Key) → link_at d k ≡ link_at e k)
    → ((q : ℕ) → set.contains d.marks q ≡ set.contains e.marks q) → d ≡ e
same_database d e same marked =
    let links : d.links ≡ e.links = same_map keys_total keys_antisymmetric d.links e.links same in
    let marks : d.marks ≡ e.marks = set.same_set nat_cmp_total set.nat_cmp-IsAntisymmetric d.marks e.marks marked in
    λ i. record { links = links i; marks = marks i }

-- A list of batches makes at most one database.
pub one_database : OneDatabase
one_database batches d e is also =
    same_database d e (λ k. is.at k ∙ sym (also.at k)) (λ q. is.marked q ∙ sym (also.marked q))

-- Making the changes of two concatenated lists gives the same database as making the changes of the
-- first list, and then the changes of the second list.
pub after_changes-append : (d : Database) (bs cs : List Change)
    → after_changes d (bs ++ cs) ≡ after_changes (after_changes d bs) cs
after_changes-append d [] cs = refl
after_changes-append d (b ∷ bs) cs = after_changes-append (after_change d b) bs cs

-- If a batch is appended to a list of batches, the changes of the longer list are the changes of
-- the list followed by the changes of the batch.
changes_of-push : (batches : List NumberedChanges) (b : NumberedChanges)
    → changes_of (batches ++ b ∷ []) ≡ changes_of batches ++ b.changes
changes_of-push batches b = grind (arith, common_steps, append-nil, append_assoc)

-- If a batch is appended to a list of batches, the batch's changes act in order on the database
-- that the list makes.
pub one_more_batch : OneMoreBatch
one_more_batch = search (rules, after_changes-append, changes_of-push)

-- If each link of a database is stored at the link's own key, the same is true after a change.
kept_at_keys : (d : Database) (c : Change) → AreAtTheirKeys d → AreAtTheirKeys (after_change d c)
kept_at_keys d c keyed = search (rules, keys_same, link_at-after_change)

-- If each link of a database is stored at the link's own key, the same is true after a list of
-- changes.
changed_at_keys : (d : Database) (cs : List Change) → AreAtTheirKeys d
    → AreAtTheirKeys (after_changes d cs)
changed_at_keys d [] keyed = keyed
changed_at_keys d (c ∷ cs) keyed = changed_at_keys (after_change d c) cs (kept_at_keys d c keyed)

-- In the database without links, each link is stored at the link's own key, because there are no
-- links.
none_at_keys : AreAtTheirKeys no_links
none_at_keys = search (rules, get-empty)

-- In the database after any list of batches, each link is stored at the link's own key.
pub at_their_keys : (batches : List NumberedChanges) → AreAtTheirKeys (database_after batches)
at_their_keys batches = changed_at_keys no_links (changes_of batches) none_at_keys
