-- The links of a database after changes that remove links.
use Rattle.std.proofs.Common.{◌≡◌, ◌≢◌, ◌⊎◌, zero, suc, true, false, cond, Some, None, List, [], ◌∷◌, inl, inr, refl, sym, ap, ◌∙◌, arith}
use Rattle.std.specs.Ordering.{eq_by_cmp}
use Rattle.std.specs.List.{AllByRecursion, Contains}
use Rattle.std.specs.FinMap.{get-remove}
use Rattle.cspf_model.specs.declared.link.Link.{Link}
use Rattle.cspf_model.specs.declared.batch.Change.{Change}
use Rattle.cspf_model.specs.declared.batch.Change.TheVariants.{Put, Remove, Node}
use Rattle.cspf_model.specs.Database.{Database, Key, key_cmp, link_at}
use Rattle.cspf_model.specs.Changes.{after_change, after_changes}
use Rattle.cspf_model.proofs.Databases.Keys.{keys_total, key_itself, keys_apart_from}

-- the change removes a link
abbrev pub IsRemove : Change → Type 0
IsRemove (Put l) = ⊥
IsRemove (Remove from local) = Unit {0}
IsRemove (Node router transit) = ⊥

-- the change that removes the link at this key
abbrev pub remove_at : Key → Change
remove_at k = Remove k.0 k.1

contains_cons : {X : Type 0} (c : X) (cs : List X) (x : X) → Contains (c ∷ cs) x → (c ≡ x) ⊎ Contains cs x
contains_cons c cs x (zero, below, is) = inl is
contains_cons c cs x (suc i, below, is) = inr (i, omega arith, is)

contains_head : {X : Type 0} (c : X) (cs : List X) → Contains (c ∷ cs) c
contains_head c cs = (0, omega arith, refl)

contains_tail : {X : Type 0} (c : X) (cs : List X) (x : X) → Contains cs x → Contains (c ∷ cs) x
contains_tail c cs x (i, below, is) = (suc i, omega arith, is)

-- If a link is at a key after the link at the key `j` is removed, it was there before, and the key
-- isn't `j`.
one_removed : (d : Database) (j k : Key) (l : Link) → link_at (after_change d (remove_at j)) k ≡ Some l
    → (link_at d k ≡ Some l) × (k ≢ j)
one_removed d j k l is = by_tie (eq_by_cmp key_cmp k j) refl (sym (get-remove keys_total d.links j k) ∙ is)
  where
    by_tie : (b : _) → eq_by_cmp key_cmp k j ≡ b → cond b None (link_at d k) ≡ Some l → (link_at d k ≡ Some l) × (k ≢ j)
    by_tie true tie e = absurd (cc e)
    by_tie false tie e = (e, λ same. absurd (cc (sym (ap (λ x. eq_by_cmp key_cmp x j) same ∙ key_itself j) ∙ tie)))

-- A link at another key than `j` is still there after the link at `j` is removed.
one_kept : (d : Database) (j k : Key) (l : Link) → link_at d k ≡ Some l → k ≢ j → link_at (after_change d (remove_at j)) k ≡ Some l
one_kept d j k l is apart =
    get-remove keys_total d.links j k ∙ ap (λ b. cond b None (link_at d k)) (keys_apart_from k j apart) ∙ is

-- If a link is at a key after changes that remove links, it was there before, and no change removes
-- the link at this key.
pub removed : (cs : List Change) (d : Database) → AllByRecursion IsRemove cs → (k : Key) (l : Link)
    → link_at (after_changes d cs) k ≡ Some l → (link_at d k ≡ Some l) × ¬ Contains cs (remove_at k)
removed [] d all k l is = (is, λ has. absurd (let below = has.1 in omega arith))
removed (Put m ∷ cs) d all k l is = absurd all.0
removed (Node router transit ∷ cs) d all k l is = absurd all.0
removed (Remove from local ∷ cs) d all k l is =
    let rest = removed cs (after_change d (Remove from local)) all.1 k l is in
    let here = one_removed d (from, local) k l rest.0 in
    (here.0, λ has. elim (contains_cons (Remove from local) cs (remove_at k) has) [ inl same ↦ here.1 (key_of_removal same) | inr more ↦ rest.1 more ])
  where
    key_of_removal : Remove from local ≡ remove_at k → k ≡ (from, local)
    key_of_removal same =
        let one : from ≡ k.0 = cc same in
        let other : local ≡ k.1 = cc same in
        rw (one, other) refl

-- A link that no change removes is still there after changes that remove links.
pub kept : (cs : List Change) (d : Database) → AllByRecursion IsRemove cs → (k : Key) (l : Link)
    → link_at d k ≡ Some l → ¬ Contains cs (remove_at k) → link_at (after_changes d cs) k ≡ Some l
kept [] d all k l is none = is
kept (Put m ∷ cs) d all k l is none = absurd all.0
kept (Node router transit ∷ cs) d all k l is none = absurd all.0
kept (Remove from local ∷ cs) d all k l is none =
    kept cs (after_change d (Remove from local)) all.1 k l
    (one_kept d (from, local) k l is (λ same. none (rw same (contains_head (Remove from local) cs))))
    (λ has. none (contains_tail (Remove from local) cs (remove_at k) has))

-- Changes that remove links leave the marks as they are.
pub marks_kept : (cs : List Change) (d : Database) → AllByRecursion IsRemove cs → (after_changes d cs).marks ≡ d.marks
marks_kept [] d all = refl
marks_kept (Put m ∷ cs) d all = absurd all.0
marks_kept (Node router transit ∷ cs) d all = absurd all.0
marks_kept (Remove from local ∷ cs) d all = marks_kept cs (after_change d (Remove from local)) all.1
