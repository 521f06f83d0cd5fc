-- Private: which keys the changes of a list have, and which changes have the key of an earlier
-- change.
use Rattle.std.specs.Prelude.{◌≡◌, ℕ, Bool, true, false, List, take}
use Rattle.std.specs.Ordering.{eq_by_cmp}
use Rattle.std.specs.List.{list_any, slice_index_or}
use Rattle.cspf_model.specs.declared.batch.Change.{Change}
use Rattle.cspf_model.specs.Changes.{ChangeKey, change_key_cmp, key_changed}

-- Whether some change has this key.
abbrev pub is_changed : List Change → ChangeKey → Bool
is_changed changes k = list_any (λ c. eq_by_cmp change_key_cmp k (key_changed c)) changes

-- No earlier change has the key of the change at index `k`.
abbrev pub IsNewAt : List Change → ℕ → Type 0
IsNewAt changes k =
    (d : Change) → is_changed (take k changes) (key_changed (slice_index_or changes k d)) ≡ false

-- Some earlier change has the key of the change at index `k`.
abbrev pub IsRepeatedAt : List Change → ℕ → Type 0
IsRepeatedAt changes k =
    (d : Change) → is_changed (take k changes) (key_changed (slice_index_or changes k d)) ≡ true
