-- If a database `d` has all links of a database `e`, this is still true after changes to `e` that
-- put links of `d` or mark routers.
use Rattle.std.proofs.Common.{◌≡◌, ℕ, ◌+◌, ◌≤◌, Bool, true, false, cond, Option, Some, None, is_some, List, [], ◌∷◌, ◌++◌, sym, ap, refl, ◌∙◌, arith}
use Rattle.std.specs.Ordering.{eq_by_cmp}
use Rattle.std.specs.Cmp.{nat_cmp_total}
use Rattle.std.specs.List.{AllByRecursion}
use Rattle.std.specs.FinMap as map
use Rattle.std.specs.FinSet as set
use Rattle.cspf_model.specs.declared.link.Link.{Link}
use Rattle.cspf_model.specs.declared.batch.Change.{Change}
use Rattle.cspf_model.specs.declared.batch.Change.TheVariants.{Put, Remove, Node}
use Rattle.cspf_model.specs.Database.{Database, Key, key_of, key_cmp, link_at, IsLinkOf, AreAtTheirKeys, link_count, mark_count}
use Rattle.cspf_model.specs.Changes.{no_links, marks_after, after_change, after_changes}
use Rattle.cspf_model.proofs.Databases.Keys.{keys_total, keys_same, key_itself}

-- `e` is a part of `d`: each link of `e` is in `d`, at the same key
abbrev pub IsPartOf : Database → Database → Type 0
IsPartOf e d = (k : Key) (l : Link) → link_at e k ≡ Some l → link_at d k ≡ Some l

-- the change is an own change of `d`: it puts a link of `d`, or marks a router as without transit
abbrev pub IsOwnChange : Database → Change → Type 0
IsOwnChange d (Put l) = IsLinkOf d l
IsOwnChange d (Remove from local) = ⊥
IsOwnChange d (Node router transit) = transit ≡ false

-- each change of the list puts a link of `d`, or marks a router as without transit
abbrev pub AreOwnChanges : Database → List Change → Type 0
AreOwnChanges d cs = AllByRecursion (IsOwnChange d) cs

-- to apply two concatenated lists of changes is to apply the first list, and then to apply the
-- second list to the result
pub after_changes-append : (d : Database) (bs cs : List Change)
    → after_changes d (bs ++ cs) ≡ after_changes (after_changes d bs) cs
after_changes-append d [] cs = refl
after_changes-append d (b ∷ bs) cs = after_changes-append (after_change d b) bs cs

-- the database without links is a part of every database
pub none_is_part : (d : Database) → IsPartOf no_links d
none_is_part d k l is = absurd (none_some (sym (map.get-empty key_cmp k) ∙ is))
  where
    none_some : ◌≡◌ {A = Option Link} None (Some l) → ⊥
    none_some e = cc

-- if all links of `e` are in `d`, and each link of `d` is stored at its own key, the same is true
-- of each link of `e`
pub part_at_keys : (e d : Database) → IsPartOf e d → AreAtTheirKeys d → AreAtTheirKeys e
part_at_keys e d part keyed k l is = keyed k l (part k l is)

-- if all links of `e` are in `d`, this is still true after a change to `e` that puts a link of `d`
-- or marks a router
part_next : (e d : Database) (c : Change) → IsPartOf e d → IsOwnChange d c
    → IsPartOf (after_change e c) d
part_next e d (Put l) part own k m is =
    elim (eq_by_cmp key_cmp k (key_of l)) as (λ t. eq_by_cmp key_cmp k (key_of l) ≡ t → cond t (Some l) (link_at e k) ≡ Some m → link_at d k ≡ Some m) [
      | true ↦ λ tie here. ap (link_at d) (keys_same k (key_of l) tie) ∙ own ∙ here
      | false ↦ λ _ there. part k m there
    ] refl (sym (map.get-insert keys_total e.links (key_of l) l k) ∙ is)
part_next e d (Remove from local) part own k m is = absurd own
part_next e d (Node router transit) part own k m is = part k m is

-- if all links of `e` are in `d`, this is still true after changes to `e` that put links of `d` or
-- mark routers
pub part_after : (e d : Database) (cs : List Change) → IsPartOf e d → AreOwnChanges d cs
    → IsPartOf (after_changes e cs) d
part_after e d [] part own = part
part_after e d (c ∷ cs) part own =
    part_after (after_change e c) d cs (part_next e d c part own.0) own.1

-- if a count is unchanged or grows by one, it doesn't decrease
least_of : (b : Bool) (n m : ℕ) → m ≡ cond b n (n + 1) → n ≤ m
least_of true n m e = omega (arith, e)
least_of false n m e = omega (arith, e)

-- after a change that puts a link of `d` or marks a router, the database `e` has at least as many
-- links as before
link_count_next : (e d : Database) (c : Change) → IsOwnChange d c
    → link_count e ≤ link_count (after_change e c)
link_count_next e d (Put l) own =
    least_of (map.contains_key e.links (key_of l)) (link_count e) (link_count (after_change e (Put l)))
    (map.len-insert keys_total e.links (key_of l) l)
link_count_next e d (Remove from local) own = absurd own
link_count_next e d (Node router transit) own = omega arith

-- after a change that puts a link of `d` or marks a router, the database `e` marks at least as many
-- routers as before
mark_count_next : (e d : Database) (c : Change) → IsOwnChange d c
    → mark_count e ≤ mark_count (after_change e c)
mark_count_next e d (Put l) own = omega arith
mark_count_next e d (Remove from local) own = absurd own
mark_count_next e d (Node router transit) own = marked transit own
  where
    marked : (transit : Bool) → transit ≡ false
        → set.len e.marks ≤ set.len (marks_after e.marks router transit)
    marked true on = absurd (cc)
    marked false off =
        least_of (set.contains e.marks router) (set.len e.marks) (set.len (set.insert e.marks router))
        (set.len-insert nat_cmp_total e.marks router)

-- after changes that put links of `d` or mark routers, the database `e` has at least as many links
-- as before
pub link_count-le : (e d : Database) (cs : List Change) → AreOwnChanges d cs
    → link_count e ≤ link_count (after_changes e cs)
link_count-le e d [] own = omega arith
link_count-le e d (c ∷ cs) own =
    omega (arith, link_count_next e d c own.0, link_count-le (after_change e c) d cs own.1)

-- after changes that put links of `d` or mark routers, the database `e` marks at least as many
-- routers as before
pub mark_count-le : (e d : Database) (cs : List Change) → AreOwnChanges d cs
    → mark_count e ≤ mark_count (after_changes e cs)
mark_count-le e d [] own = omega arith
mark_count-le e d (c ∷ cs) own =
    omega (arith, mark_count_next e d c own.0, mark_count-le (after_change e c) d cs own.1)

-- if `e` has a link at a key, it has a link at this key after a change that puts a link of `d` or
-- marks a router
has_link_next : (e d : Database) (c : Change) (k : Key) → IsOwnChange d c
    → is_some (link_at e k) ≡ true → is_some (link_at (after_change e c) k) ≡ true
has_link_next e d (Put l) k own there =
    ap is_some (map.get-insert keys_total e.links (key_of l) l k)
    ∙ either (eq_by_cmp key_cmp k (key_of l))
  where
    either : (b : Bool) → is_some (cond b (Some l) (link_at e k)) ≡ true
    either true = refl
    either false = there
has_link_next e d (Remove from local) k own there = absurd own
has_link_next e d (Node router transit) k own there = there

-- if `e` has a link at a key, it has a link at this key after changes that put links of `d` or mark
-- routers
pub has_link_after : (e d : Database) (cs : List Change) (k : Key) → AreOwnChanges d cs
    → is_some (link_at e k) ≡ true → is_some (link_at (after_changes e cs) k) ≡ true
has_link_after e d [] k own there = there
has_link_after e d (c ∷ cs) k own there =
    has_link_after (after_change e c) d cs k own.1 (has_link_next e d c k own.0 there)

-- after a change that puts a link, the database has a link at the key of this link
pub has_link_put : (e : Database) (l : Link)
    → is_some (link_at (after_change e (Put l)) (key_of l)) ≡ true
has_link_put e l =
    ap is_some (map.get-insert keys_total e.links (key_of l) l (key_of l))
    ∙ ap (λ b. is_some (cond b (Some l) (link_at e (key_of l)))) (key_itself (key_of l))
