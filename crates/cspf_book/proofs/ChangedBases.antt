-- The links and the marks that a base has after changes. A mark says that a router carries no
-- transit.
use Rattle.std.proofs.Common.{◌≡◌, ◌↔◌, ℕ, Bool, true, false, not, cond, IsTrue, IfSome, Option, Some, None, List, [], ◌∷◌, reverse, find, refl, sym, ap, ◌∙◌}
use Rattle.std.specs.Ordering.{nat_cmp, eq_by_cmp}
use Rattle.std.specs.FinSet as set
use Rattle.std.proofs.lemmas.Bool.{false≢true}
use Rattle.std.proofs.lemmas.List.{reverse-append, reverse-reverse}
use Rattle.cspf_model.specs.declared.link.Link.{Link}
use Rattle.cspf_model.specs.declared.batch.Change.{Change}
use Rattle.cspf_model.specs.declared.batch.Change.TheVariants.{Put, Remove, Node}
use Rattle.cspf_model.specs.Database.{Database, Key, key_of, link_at, AreAtTheirKeys, HasReverse, HasTransit}
use Rattle.cspf_model.specs.Changes.{ChangeKey, change_key_cmp, link_key, mark_key, key_changed, link_left, mark_left, last_on, link_after, mark_after, after_change, after_changes}
use Rattle.cspf_model.proofs.Databases.Keys.{change_keys_same, link_keys_same, mark_apart}
use Rattle.cspf_model.proofs.Databases.LastChanges.{link_at-after_changes, tied_alone, after_mark, after_changes-append}

-- The key of the change is `k`.
abbrev pub on_key : ChangeKey → Change → Bool
on_key k c = eq_by_cmp change_key_cmp k (key_changed c)

-- The change that `find` returns passes the test.
find_passes : (p : Change → Bool) (cs : List Change) (c : Change) → find p cs ≡ Some c → p c ≡ true
find_passes p [] c e = absurd (cc)
find_passes p (b ∷ cs) c e =
    elim (p b) as (λ t. p b ≡ t → cond t (Some b) (find p cs) ≡ Some c → p c ≡ true) [
      | true ↦ λ yes here. let same : b ≡ c = cc in ap p (sym same) ∙ yes
      | false ↦ λ _ there. find_passes p cs c there
    ] refl e

-- If the last change with a link's key sets a link (`Put`), this link has the key.
pub last_put : (k : Key) (cs : List Change) (l : Link) → last_on (link_key k) cs ≡ Some (Put l) → key_of l ≡ k
last_put k cs l e =
    sym (link_keys_same k (key_of l) (change_keys_same (link_key k) (link_key (key_of l)) (find_passes (on_key (link_key k)) (reverse cs) (Put l) e)))

-- Only a change of a router's own mark matters for whether the router is marked after one change. A
-- marked router carries no transit.
pub marked-after_change : (d : Database) (c : Change) (q : ℕ)
    → set.contains (after_change d c).marks q ≡ mark_after (cond (on_key (mark_key q) c) (Some c) None) (set.contains d.marks q)
marked-after_change d (Put l) q =
    ap (λ b. mark_after (cond b (Some (Put l)) None) (set.contains d.marks q)) (sym (mark_apart q (key_of l)))
marked-after_change d (Remove from local) q =
    ap (λ b. mark_after (cond b (Some (Remove from local)) None) (set.contains d.marks q)) (sym (mark_apart q (from, local)))
marked-after_change d (Node router transit) q =
    after_mark d.marks router q transit
    ∙ chosen (eq_by_cmp nat_cmp q router)
    ∙ ap (λ b. mark_after (cond b (Some (Node router transit)) None) (set.contains d.marks q)) (tied_alone (nat_cmp q router))
  where
    chosen : (b : Bool) → cond b (not transit) (set.contains d.marks q) ≡ mark_after (cond b (Some (Node router transit)) None) (set.contains d.marks q)
    chosen true = refl
    chosen false = refl

-- The last change of a router's mark decides whether the router is marked. A marked router carries
-- no transit. This lemma lists the changes from the last to the first.
marked-after_reversed : (d : Database) (cs : List Change) (q : ℕ)
    → set.contains (after_changes d (reverse cs)).marks q ≡ mark_after (find (on_key (mark_key q)) cs) (set.contains d.marks q)
marked-after_reversed d [] q = refl
marked-after_reversed d (c ∷ cs) q =
    ap (λ bs. set.contains (after_changes d bs).marks q) (reverse-append (c ∷ []) cs)
    ∙ ap (λ (e : Database). set.contains e.marks q) (after_changes-append d (reverse cs) (c ∷ []))
    ∙ marked-after_change (after_changes d (reverse cs)) c q
    ∙ elim (on_key (mark_key q) c) as (λ b. mark_after (cond b (Some c) None) (set.contains (after_changes d (reverse cs)).marks q) ≡ mark_after (cond b (Some c) (find (on_key (mark_key q)) cs)) (set.contains d.marks q)) [ true ↦ refl | false ↦ marked-after_reversed d cs q ]

-- The last change of a router's mark decides whether the router is marked. A marked router carries
-- no transit.
pub marked-after_changes : (d : Database) (cs : List Change) (q : ℕ)
    → set.contains (after_changes d cs).marks q ≡ mark_after (last_on (mark_key q) cs) (set.contains d.marks q)
marked-after_changes d cs q =
    ap (λ bs. set.contains (after_changes d bs).marks q) (sym (reverse-reverse cs)) ∙ marked-after_reversed d (reverse cs) q

-- The last change with a link's key decides which link is at this key after the changes.
pub link_by_last : (d : Database) (cs : List Change) (k : Key) (c : Change) → Some c ≡ last_on (link_key k) cs
    → link_left c ≡ link_at (after_changes d cs) k
link_by_last d cs k c is =
    sym (link_at-after_changes d cs k ∙ ap (λ o. link_after o (link_at d k)) (sym is))

pub link_by_none : (d : Database) (cs : List Change) (k : Key) → None ≡ last_on (link_key k) cs
    → link_at d k ≡ link_at (after_changes d cs) k
link_by_none d cs k is =
    sym (link_at-after_changes d cs k ∙ ap (λ o. link_after o (link_at d k)) (sym is))

-- A link that the last change with a key sets (`Put`) has this key.
pub keyed_by_last : (cs : List Change) (k : Key) (c : Change) → Some c ≡ last_on (link_key k) cs
    → IfSome (link_left c) (λ l. key_of l ≡ k)
keyed_by_last cs k (Put l) is = last_put k cs l (sym is)
keyed_by_last cs k (Remove from local) is = tt
keyed_by_last cs k (Node router transit) is = tt

-- If a database has each link at the link's own key, this is still so after changes.
pub keyed_after : (d : Database) (cs : List Change) → AreAtTheirKeys d → AreAtTheirKeys (after_changes d cs)
keyed_after d cs keyed k l is = by_last (last_on (link_key k) cs) refl (sym (link_at-after_changes d cs k) ∙ is)
  where
    by_last : (o : Option Change) → last_on (link_key k) cs ≡ o → link_after (last_on (link_key k) cs) (link_at d k) ≡ Some l → key_of l ≡ k
    by_last None none at = keyed k l (ap (λ o. link_after o (link_at d k)) (sym none) ∙ at)
    by_last (Some (Put m)) last at =
        let same : Some m ≡ Some l = ap (λ o. link_after o (link_at d k)) (sym last) ∙ at in
        let one : m ≡ l = cc in
        last_put k cs l (last ∙ ap (λ (x : Link). Some (Put x)) one)
    by_last (Some (Remove from local)) last at =
        let never : None ≡ Some l = ap (λ o. link_after o (link_at d k)) (sym last) ∙ at in absurd (cc)
    by_last (Some (Node router transit)) last at =
        let never : None ≡ Some l = ap (λ o. link_after o (link_at d k)) (sym last) ∙ at in absurd (cc)

-- A link that is found at a key of a database has this key.
pub keyed_by_base : (d : Database) (k : Key) (o : Option Link) → AreAtTheirKeys d → o ≡ link_at d k
    → IfSome o (λ l. key_of l ≡ k)
keyed_by_base d k None keyed is = tt
keyed_by_base d k (Some l) keyed is = keyed k l (sym is)

-- If two tests give the same result, the first fails exactly if the second doesn't hold.
unmarked : (a b : Bool) → a ≡ b → IsTrue (not b) ↔ (¬ IsTrue a)
unmarked a true e = (λ t. absurd (false≢true t), λ marked. absurd (marked e))
unmarked a false e = (λ t marked. false≢true (sym e ∙ marked), λ marked. refl)

-- If a router's mark is changed, the last change of the mark decides whether the router carries
-- transit.
pub transit_by_last : (d : Database) (cs : List Change) (q : ℕ) (c : Change) → Some c ≡ last_on (mark_key q) cs
    → IsTrue (not (mark_left c)) ↔ HasTransit (after_changes d cs) q
transit_by_last d cs q c is =
    unmarked (set.contains (after_changes d cs).marks q) (mark_left c)
    (marked-after_changes d cs q ∙ ap (λ o. mark_after o (set.contains d.marks q)) (sym is))

pub transit_by_none : (d : Database) (cs : List Change) (q : ℕ) → None ≡ last_on (mark_key q) cs
    → HasTransit d q ↔ HasTransit (after_changes d cs) q
transit_by_none d cs q is =
    let same : set.contains (after_changes d cs).marks q ≡ set.contains d.marks q =
    marked-after_changes d cs q ∙ ap (λ o. mark_after o (set.contains d.marks q)) (sym is) in
    (λ free marked. free (sym same ∙ marked), λ free marked. free (same ∙ marked))

-- Let `back` be the link at the key that the reverse of `l` has, and let it run to the router of
-- `l`. Then `back` is the reverse of `l` exactly if its remote address is the local address of `l`.
pub reverse_found : (d : Database) (l back : Link) → Some back ≡ link_at d (l.to, l.remote) → key_of back ≡ (l.to, l.remote)
    → back.to ≡ l.from → (back.remote ≡ l.local) ↔ HasReverse d l
reverse_found d l back found keyed to = (
  λ remote. (
    back,
    ap (link_at d) keyed ∙ sym found,
    record { from = ap (λ (k : Key). k.0) keyed; local = ap (λ (k : Key). k.1) keyed; to = to; remote = remote },
  ),
  λ has.
      let r : Link = has.0 in
      let key : key_of r ≡ (l.to, l.remote) = λ i. (has.2.from i, has.2.local i) in
      let same : Some back ≡ Some r = found ∙ ap (link_at d) (sym key) ∙ has.1 in
      let one : back ≡ r = cc in
      ap (λ (m : Link). m.remote) one ∙ has.2.remote,
)
