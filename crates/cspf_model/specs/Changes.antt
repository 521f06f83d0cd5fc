-- How changes act on a database, which batches fit a database, and which lists of batches are
-- lawful.
use Rattle.std.specs.Prelude.{◌≡◌, ◌≤◌, ℕ, Bool, false, not, cond, Option, Some, None, IsSome, List, [], ◌∷◌, All, length, map, reverse, find}
use Rattle.std.specs.declared.cmp.Ordering.{Ordering}
use Rattle.std.specs.Ordering.{nat_cmp, eq_by_cmp, ordering_then}
use Rattle.std.specs.Option.{option_cmp}
use Rattle.std.specs.List.{flat_map, IsDistinct}
use Rattle.std.specs.FinMap.{empty, insert, remove}
use Rattle.std.specs.FinSet as set
use Rattle.cspf_model.specs.declared.link.Link.{Link}
use Rattle.cspf_model.specs.declared.batch.Change.{Change}
use Rattle.cspf_model.specs.declared.batch.Change.TheVariants.{Put, Remove, Node}
use Rattle.cspf_model.specs.Numbered.{NumberedChanges}
use Rattle.cspf_model.specs.Database.{Database, Key, key_of, link_at, link_count, router_count, mark_count}
use Rattle.cspf_model.specs.declared.limits.TheConstants.{MOST_CHANGES, MOST_LINKS, MOST_ROUTERS, MOST_MARKS}

-- The key of a change. A change to a link has the link's key: the router at which the link begins,
-- and the address of the link's interface at this router. A change of a router's transit has the
-- router as its key, and `None` in place of an address.
abbrev pub ChangeKey : Type 0
ChangeKey = ℕ × Option ℕ

-- The key of a change to the link with this key.
abbrev pub link_key : Key → ChangeKey
link_key k = (k.0, Some k.1)

-- The key of a change of this router's transit. A router has transit if routes may pass through it.
abbrev pub mark_key : ℕ → ChangeKey
mark_key router = (router, None)

-- Keys of changes are ordered by router, and then by interface. A key without an interface precedes
-- keys of the same router with an interface.
abbrev pub change_key_cmp : ChangeKey → ChangeKey → Ordering
change_key_cmp a b = ordering_then (nat_cmp a.0 b.0) (option_cmp nat_cmp a.1 b.1)

-- The key of a change.
abbrev pub key_changed : Change → ChangeKey
key_changed (Put l) = link_key (key_of l)
key_changed (Remove from local) = link_key (from, local)
key_changed (Node router transit) = mark_key router

-- The link that a change puts, or `None` if the change puts no link.
abbrev pub link_left : Change → Option Link
link_left (Put l) = Some l
link_left (Remove from local) = None
link_left (Node router transit) = None

-- Whether a change marks a router as without transit, because it takes the router's transit away.
abbrev pub mark_left : Change → Bool
mark_left (Put l) = false
mark_left (Remove from local) = false
mark_left (Node router transit) = not transit

-- The last change with this key in a list, or `None` if no change has this key.
abbrev pub last_on : ChangeKey → List Change → Option Change
last_on k changes = find (λ c. eq_by_cmp change_key_cmp k (key_changed c)) (reverse changes)

-- The link at a key after a list of changes. The first parameter is the last change with this key,
-- and `before` is the link at this key before the changes.
abbrev pub link_after : Option Change → Option Link → Option Link
link_after None before = before
link_after (Some c) before = link_left c

-- Whether a router is marked as without transit after a list of changes. The first parameter is the
-- last change of the router's transit, and `before` says whether the router was marked before the
-- changes.
abbrev pub mark_after : Option Change → Bool → Bool
mark_after None before = before
mark_after (Some c) before = mark_left c

-- The changes of a list of batches as one list.
abbrev pub changes_of : List NumberedChanges → List Change
changes_of batches = flat_map (λ b. b.changes) batches

-- The database that a list of batches makes. It has a link at a key exactly if the last change with
-- this key puts that link. A router is marked as without transit exactly if the last change of its
-- transit takes the transit away.
pub record IsDatabaseOf (d : Database) (batches : List NumberedChanges) : Type 0 where
  pub at : (k : Key) → link_at d k ≡ link_after (last_on (link_key k) (changes_of batches)) None
  pub marked : (router : ℕ)
      → set.contains d.marks router ≡ mark_after (last_on (mark_key router) (changes_of batches)) false

-- The database without links, in which no router is marked as without transit.
abbrev pub no_links : Database
no_links = record { links = empty; marks = set.empty }

-- The routers that are marked as without transit after a change of the transit of `router`. `marks`
-- are the routers that are marked before the change. `transit` says whether `router` has transit
-- after the change.
abbrev pub marks_after : set.FinSet nat_cmp → ℕ → Bool → set.FinSet nat_cmp
marks_after marks router transit = cond transit (set.remove marks router) (set.insert marks router)

-- The database after one change.
abbrev pub after_change : Database → Change → Database
after_change d (Put l) = record { links = insert d.links (key_of l) l; marks = d.marks }
after_change d (Remove from local) = record { links = remove d.links (from, local); marks = d.marks }
after_change d (Node router transit) =
    record { links = d.links; marks = marks_after d.marks router transit }

-- The database after these changes, in order.
abbrev pub after_changes : Database → List Change → Database
after_changes d [] = d
after_changes d (c ∷ cs) = after_changes (after_change d c) cs

-- The database after a list of batches.
abbrev pub database_after : List NumberedChanges → Database
database_after batches = after_changes no_links (changes_of batches)

-- If the change is a removal, the database has a link with its key.
abbrev pub IsPresent : Database → Change → Type 0
IsPresent d (Put l) = Unit {0}
IsPresent d (Remove from local) = IsSome (link_at d (from, local))
IsPresent d (Node router transit) = Unit {0}

-- A batch fits a database if six rules hold. The batch has at most 4,096 changes. No two changes
-- have the same key. For each removal, the database has a link with its key. After the batch, the
-- database has at most 16,384 links, has at most 1,024 routers, and marks at most 1,024 routers as
-- without transit.
pub record Fits (d : Database) (batch : NumberedChanges) : Type 0 where
  pub short : length batch.changes ≤ MOST_CHANGES
  pub once : IsDistinct (eq_by_cmp change_key_cmp) (map key_changed batch.changes)
  pub present : All (IsPresent d) batch.changes
  pub links : link_count (after_changes d batch.changes) ≤ MOST_LINKS
  pub routers : router_count (after_changes d batch.changes) ≤ MOST_ROUTERS
  pub marks : mark_count (after_changes d batch.changes) ≤ MOST_MARKS

-- Each batch fits the database that the preceding batches make from `d`.
abbrev pub AreLawfulAfter : Database → List NumberedChanges → Type 0
AreLawfulAfter d [] = Unit {0}
AreLawfulAfter d (b ∷ bs) = Fits d b × AreLawfulAfter (after_changes d b.changes) bs

-- The list of batches is lawful: each batch fits the database that the preceding batches make. The
-- first batch has to fit the database without links and marks.
abbrev pub AreLawful : List NumberedChanges → Type 0
AreLawful batches = AreLawfulAfter no_links batches
