-- How changes are entered into the map by which they are looked up.
use Rattle.std.proofs.Common.{◌≡◌, ℕ, ◌+◌, ◌<◌, ◌++◌, cond, Some, List, [], ◌∷◌, length, take, find, slice_index_or, sym, ap, ◌∙◌}
use Rattle.std.specs.BTreeMap.{BTreeMap, get}
use Rattle.std.specs.Ordering.{eq_by_cmp}
use Rattle.std.proofs.lemmas.Cmp.{eq_by_cmp_equiv}
use Rattle.std.proofs.lemmas.List.{take_more, reverse-append}
use Rattle.cspf_model.specs.declared.batch.Change.{Change}
use Rattle.cspf_model.specs.Changes.{ChangeKey, change_key_cmp, key_changed, last_on}
use Rattle.cspf_model.proofs.Databases.Keys.{change_keys_total}
use Rattle.cspf_book.specs.ByKey.{IsByKey}
use Rattle.cspf_book.proofs.ChangedBases.{on_key}

-- If one more change of a list is taken, the last change with a key is this change if it has the
-- key. Otherwise it is the last change with the key from before.
pub last_on-more : (k : ChangeKey) (cs : List Change) (i : ℕ) (c : Change) → i < length cs → c ≡ slice_index_or cs i c
    → last_on k (take (i + 1) cs) ≡ cond (on_key k c) (Some c) (last_on k (take i cs))
last_on-more k cs i c within is =
    ap (last_on k) (take_more cs i c within ∙ ap (λ (b : Change). take i cs ++ b ∷ []) (sym is)) ∙ ap (find (on_key k)) (reverse-append (take i cs) (c ∷ []))

-- Let a map be that of the first i changes (`IsByKey`). If the change at index i is entered, it is
-- that of the first i + 1 changes.
pub by_key_more : (m n : BTreeMap ChangeKey Change) (cs : List Change) (i : ℕ) (c : Change) (key : ChangeKey)
    → i < length cs → c ≡ slice_index_or cs i c → key ≡ key_changed c
    → ((k : ChangeKey) → get change_key_cmp n k ≡ cond (eq_by_cmp change_key_cmp key k) (Some c) (get change_key_cmp m k))
    → IsByKey m (take i cs) → IsByKey n (take (i + 1) cs)
by_key_more m n cs i c key within is its entered old = record {
  last_at = λ k.
      entered k
      ∙ ap (λ b. cond b (Some c) (get change_key_cmp m k)) ((eq_by_cmp_equiv change_keys_total).symm key k ∙ ap (eq_by_cmp change_key_cmp k) its)
      ∙ ap (cond (on_key k c) (Some c)) (old.last_at k)
      ∙ sym (last_on-more k cs i c within is);
}
