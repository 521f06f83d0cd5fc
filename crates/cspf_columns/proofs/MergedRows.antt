-- One step of merging changes into rows (links). The changes and the rows are in order of their
-- keys.
use Rattle.std.proofs.Common.{◌≡◌, ℕ, suc, ◌+◌, ◌-◌, ◌<◌, ◌≤◌, nat_lt, true, false, List, [], ◌∷◌, ◌++◌, length, map, drop, get_or, slice_set, refl, sym, ap, subst, ◌∙◌, append_assoc, add-one, append-nil, length-append, length-drop, ◌≢◌, All, arith, rules}
use Rattle.std.specs.Ordering.{is_lt, is_eq}
use Rattle.std.specs.declared.cmp.Ordering.{Ordering}
use Rattle.std.specs.declared.cmp.Ordering.TheVariants.{Less, Greater}
use Rattle.std.specs.List.{HoldsAt, AllWithin, between, insert, remove as without}
use Rattle.std.specs.FinMap.{entries}
use Rattle.std.proofs.lemmas.Bool.Decides.{nat_tests}
use Rattle.std.proofs.lemmas.List.{take-append-drop, drop-drop, drop_more, set_at, take_at, drop_at, get_or_at, get_or_append_left, get_or-append_right, get_or-drop, get_or_default, length_push}
use Rattle.cspf_model.specs.declared.link.Link.{Link}
use Rattle.std.proofs.lemmas.List.Edits.{length-between, get_or-between}
use Rattle.cspf_model.specs.declared.batch.Change.{Change}
use Rattle.cspf_model.specs.declared.batch.Change.TheVariants.{Put, Remove, Node}
use Rattle.cspf_model.specs.Database.{Key, key_of, key_cmp}
use Rattle.cspf_model.specs.Changes.{ChangeKey, change_key_cmp, link_key, key_changed}
use Rattle.cspf_model.specs.Lemmas.LinkChanges.{relinked}
use Rattle.cspf_columns.specs.MergeSteps.{EndsBelow}
use Rattle.cspf_model.specs.Lemmas.RowsLeft.{links_put}
use Rattle.cspf_model.specs.Lemmas.LinkRows.{entry_of, database_of, AreByKey}
use Rattle.cspf_model.proofs.Databases.Keys.{keys_total, change_keys_total, link_keys_same, link_not_mark}
use Rattle.cspf_model.proofs.Databases.FoundLinks.{link_at-no_row}
use Rattle.cspf_columns.proofs.SortedEntries.{turned_greater, turned_less, test_from_true, rises}
use Rattle.cspf_model.proofs.Databases.OneChange.{database-without, relinked-absent}
use Rattle.cspf_columns.proofs.RowOrder.{own_keys, entries-hit, entries-gap, by_key-entries, database_of-entries, by_key-without, untied}

-- the list of the merged rows followed by the rows that aren't copied yet doesn't change when rows
-- up to the index `next` are copied to the merged rows
copied : (old rows : List Link) (at next : ℕ) → at ≤ next → (old ++ between at next rows) ++ drop next rows ≡ old ++ drop at rows
copied old rows at next le =
    let e : next ≡ at + (next - at) = omega arith in
    append_assoc old (between at next rows) (drop next rows)
    ∙ ap (λ xs. old ++ (between at next rows ++ xs)) (ap (λ n. drop n rows) e ∙ sym (drop-drop (next - at) at rows))
    ∙ ap (λ xs. old ++ xs) (take-append-drop (next - at) (drop at rows))

-- in the list of the merged rows (links) followed by the rows from `next` on, the merged rows are
-- followed by the row at the index `next`
at_next : (out rows : List Link) (next : ℕ) (d : Link) → next < length rows → get_or (out ++ drop next rows) (length out) d ≡ get_or rows next d
at_next out rows next d h = ap (λ xs. get_or (out ++ xs) (length out) d) (drop_more rows next d h) ∙ get_or_at out (get_or rows next d) (drop (next + 1) rows) d (length out) refl

-- if the link `l` replaces the row (a link) that follows the merged rows, the result is the merged
-- rows, `l`, and the rows from `next + 1` on
set-next : (out rows : List Link) (next : ℕ) (l : Link) → next < length rows → slice_set (out ++ drop next rows) (length out) l ≡ (out ++ l ∷ []) ++ drop (next + 1) rows
set-next out rows next l h =
    ap (λ xs. slice_set (out ++ xs) (length out) l) (drop_more rows next l h) ∙ set_at out (get_or rows next l) (drop (next + 1) rows) l (length out) refl ∙ sym (append_assoc out (l ∷ []) (drop (next + 1) rows))

-- if the link `l` is inserted right after the merged rows (links), the result is the merged rows,
-- `l`, and the rows from `next` on
insert-next : (out rows : List Link) (next : ℕ) (l : Link) → insert (out ++ drop next rows) (length out) l ≡ (out ++ l ∷ []) ++ drop next rows
insert-next out rows next l = search (rules, append_assoc, drop_at, take_at)

-- if the row (a link) that follows the merged rows is removed, the result is the merged rows
-- followed by the rows from `next + 1` on
without-next : (out rows : List Link) (next : ℕ) (d : Link) → next < length rows → without (out ++ drop next rows) (length out) ≡ out ++ drop (next + 1) rows
without-next out rows next d h =
    ap (λ xs. without (out ++ xs) (length out)) (drop_more rows next d h)
    ∙ ap (λ xs. xs ++ drop (suc (length out)) (out ++ get_or rows next d ∷ drop (next + 1) rows)) (take_at out (get_or rows next d ∷ drop (next + 1) rows) (length out) refl)
    ∙ ap (λ xs. out ++ xs)
    (ap (drop (suc (length out))) (sym (append_assoc out (get_or rows next d ∷ []) (drop (next + 1) rows)))
    ∙ drop_at (out ++ get_or rows next d ∷ []) (drop (next + 1) rows) (suc (length out)) (length_push out (get_or rows next d) ∙ add-one (length out)))

-- if an index is below the number of rows (links), there is a row at this index
some_row : (rows : List Link) (next : ℕ) → next < length rows → Link
some_row [] next h = absurd (omega arith)
some_row (l ∷ rows) next h = l

-- Suppose that a change puts a link with the key of the row (a link) at the index `next`. The
-- entries of the changed database are the entries of the list in which the link replaces this row.
entries-over : (old rows : List Link) (at next : ℕ) (l : Link) → AreByKey (old ++ drop at rows) → at ≤ next → next < length rows → HoldsAt (λ m. key_of m ≡ key_of l) rows next
    → entries (relinked (database_of (old ++ drop at rows)) (Put l)).links ≡ map entry_of (((old ++ between at next rows) ++ l ∷ []) ++ drop (next + 1) rows)
entries-over old rows at next l by_key le h has =
    let out : List Link = old ++ between at next rows in
    let same : out ++ drop next rows ≡ old ++ drop at rows = copied old rows at next le in
    let within : length out < length (out ++ drop next rows) = omega (arith, length-append out (drop next rows), length-drop next rows, h) in
    ap (λ xs. entries (relinked (database_of xs) (Put l)).links) (sym same)
    ∙ entries-hit (out ++ drop next rows) (length out) l (subst AreByKey (sym same) by_key) within (λ d. ap key_of (at_next out rows next d h) ∙ has d)
    ∙ ap (map entry_of) (set-next out rows next l h)

-- if the key of the last merged row (a link) is below the key `k`, the keys of all merged rows are
-- below `k`
below_key : (out rest : List Link) (k : Key) → AreByKey (out ++ rest) → ((d : Link) → 0 < length out → key_cmp (key_of (get_or out (length out - 1) d)) k ≡ Less)
    → AllWithin (λ m. key_cmp (key_of m) k ≡ Less) (out ++ rest) 0 (length out)
below_key out rest k by_key last i d lo h =
    let end : length out - 1 < length out = omega (arith, h) in
    let at_end : key_cmp (key_of (get_or (out ++ rest) (length out - 1) d)) k ≡ Less = ap (λ (m : Link). key_cmp (key_of m) k) (get_or_append_left out rest d (length out - 1) end) ∙ last d (omega (arith, h)) in
    elim (nat_lt i (length out - 1)) as (λ b. nat_lt i (length out - 1) ≡ b → key_cmp (key_of (get_or (out ++ rest) i d)) k ≡ Less) [
      | true ↦ λ e. let before : i < length out - 1 = grind (arith, nat_tests) in
          let within : length out - 1 < length (out ++ rest) = omega (arith, length-append out rest, h) in
          keys_total.trans (key_of (get_or (out ++ rest) i d)) (key_of (get_or (out ++ rest) (length out - 1) d)) k
          (rises keys_total entry_of (out ++ rest) (test_from_true _ by_key) i (length out - 1) d before within) at_end
      | false ↦ λ e. let after : length out - 1 ≤ i = grind (arith, nat_tests) in
          let same : i ≡ length out - 1 = omega (arith, after, h) in
          subst (λ n. key_cmp (key_of (get_or (out ++ rest) n d)) k ≡ Less) (sym same) at_end
    ] refl

-- Suppose that the keys of the rows (links) from `next` on are above the key `k`. They are still
-- above `k` after the merged rows are put in front of these rows.
above_copied : (out rows : List Link) (next : ℕ) (k : Key) → AllWithin (λ m. key_cmp (key_of m) k ≡ Greater) rows next (length rows)
    → AllWithin (λ m. key_cmp (key_of m) k ≡ Greater) (out ++ drop next rows) (length out) (length (out ++ drop next rows))
above_copied out rows next k gap = search (rules, get_or-append_right, get_or-drop, length-append, length-drop)

-- Suppose that a change puts a link. The key of this link is above the key of the last merged row
-- (a link), and below the keys of the rows from `next` on. The entries of the changed database are
-- the entries of the merged rows, the link, and the rows from `next` on.
entries-between : (old rows : List Link) (at next : ℕ) (l : Link) → AreByKey (old ++ drop at rows) → at ≤ next
    → AllWithin (λ m. key_cmp (key_of m) (key_of l) ≡ Greater) rows next (length rows)
    → ((d : Link) → 0 < length (old ++ between at next rows) → key_cmp (key_of (get_or (old ++ between at next rows) (length (old ++ between at next rows) - 1) d)) (key_of l) ≡ Less)
    → entries (relinked (database_of (old ++ drop at rows)) (Put l)).links ≡ map entry_of (((old ++ between at next rows) ++ l ∷ []) ++ drop next rows)
entries-between old rows at next l by_key le gap last =
    let out : List Link = old ++ between at next rows in
    let same : out ++ drop next rows ≡ old ++ drop at rows = copied old rows at next le in
    let sorted : AreByKey (out ++ drop next rows) = subst AreByKey (sym same) by_key in
    let upto : length out ≤ length (out ++ drop next rows) = omega (arith, length-append out (drop next rows)) in
    ap (λ xs. entries (relinked (database_of xs) (Put l)).links) (sym same)
    ∙ entries-gap (out ++ drop next rows) (length out) l sorted upto (below_key out (drop next rows) (key_of l) sorted last, above_copied out rows next (key_of l) gap)
    ∙ ap (map entry_of) (insert-next out rows next l)

-- Suppose that the row (a link) at the index `next` has the key of a removal. The rows without this
-- row make the changed database, and are still in order of their keys.
merged_removal : (old rows : List Link) (at next : ℕ) (k : Key) → AreByKey (old ++ drop at rows) → at ≤ next → next < length rows → HoldsAt (λ m. key_of m ≡ k) rows next
    → (database_of ((old ++ between at next rows) ++ drop (next + 1) rows) ≡ relinked (database_of (old ++ drop at rows)) (Remove k.0 k.1)) × AreByKey ((old ++ between at next rows) ++ drop (next + 1) rows)
merged_removal old rows at next k by_key le h has =
    let out : List Link = old ++ between at next rows in
    let same : out ++ drop next rows ≡ old ++ drop at rows = copied old rows at next le in
    let sorted : AreByKey (out ++ drop next rows) = subst AreByKey (sym same) by_key in
    let within : length out < length (out ++ drop next rows) = omega (arith, length-append out (drop next rows), length-drop next rows, h) in
    let d : Link = some_row rows next h in
    let x : Link = get_or rows next d in
    let read : x ≡ get_or (out ++ drop next rows) (length out) x = sym (at_next out rows next x h ∙ get_or_default rows next x d h) in
    let left : without (out ++ drop next rows) (length out) ≡ out ++ drop (next + 1) rows = without-next out rows next d h in (
      ap database_of (sym left) ∙ database-without (out ++ drop next rows) (length out) x k (own_keys _ sorted) within read (has d) ∙ ap (λ xs. relinked (database_of xs) (Remove k.0 k.1)) same,
      subst AreByKey left (by_key-without (out ++ drop next rows) (length out) sorted),
    )

-- The next two lemmas: suppose that the key of a row (a link) isn't below `k` and isn't equal to
-- `k`. Then the keys of this row and of all later rows are above `k`.
higher : (o : Ordering) → is_lt o ≡ false → is_eq o ≡ false → o ≡ Greater
higher o h1 h2 = search rules

pub above_next : (rows : List Link) (next : ℕ) (k : Key) → AreByKey rows → (next < length rows → (d : Link) → is_lt (key_cmp (key_of (get_or rows next d)) k) ≡ false)
    → (next < length rows → (d : Link) → is_eq (key_cmp (key_of (get_or rows next d)) k) ≡ false) → AllWithin (λ m. key_cmp (key_of m) k ≡ Greater) rows next (length rows)
above_next rows next k by_key no_less no_tie i d lo h =
    let here : next < length rows = omega (arith, lo, h) in
    let first : key_cmp (key_of (get_or rows next d)) k ≡ Greater = higher _ (no_less here d) (no_tie here d) in
    elim (nat_lt next i) as (λ b. nat_lt next i ≡ b → key_cmp (key_of (get_or rows i d)) k ≡ Greater) [
      | true ↦ λ e. let behind : next < i = grind (arith, nat_tests) in
          let low : key_cmp k (key_of (get_or rows next d)) ≡ Less = turned_greater keys_total entry_of (key_of (get_or rows next d)) k first in
          turned_less keys_total entry_of k (key_of (get_or rows i d)) (keys_total.trans k (key_of (get_or rows next d)) (key_of (get_or rows i d)) low
          (rises keys_total entry_of rows (test_from_true _ by_key) next i d behind h))
      | false ↦ λ e. let upto : i ≤ next = grind (arith, nat_tests) in
          let same : i ≡ next = omega (arith, upto, lo) in
          subst (λ n. key_cmp (key_of (get_or rows n d)) k ≡ Greater) (sym same) first
    ] refl

-- Suppose that the row (a link) at the index `next` has the key of a change. If the change puts a
-- link, replace this row by the link; for a removal, remove this row. The rows then make the
-- changed database, and are still in order of their keys.
pub merged_over : (old rows : List Link) (at next : ℕ) (c : Change) → AreByKey (old ++ drop at rows) → at ≤ next → next < length rows → HoldsAt (λ m. link_key (key_of m) ≡ key_changed c) rows next
    → (database_of (((old ++ between at next rows) ++ links_put (c ∷ [])) ++ drop (next + 1) rows) ≡ relinked (database_of (old ++ drop at rows)) c)
    × AreByKey (((old ++ between at next rows) ++ links_put (c ∷ [])) ++ drop (next + 1) rows)
merged_over old rows at next (Put l) by_key le h has =
    let merged = entries-over old rows at next l by_key le h (λ d. link_keys_same _ (key_of l) (has d)) in
    (database_of-entries (relinked (database_of (old ++ drop at rows)) (Put l)) _ refl merged, by_key-entries _ _ merged)
merged_over old rows at next (Remove from local) by_key le h has =
    subst (λ (out : List Link). (database_of (out ++ drop (next + 1) rows) ≡ relinked (database_of (old ++ drop at rows)) (Remove from local)) × AreByKey (out ++ drop (next + 1) rows))
    (sym (append-nil (old ++ between at next rows))) (merged_removal old rows at next (from, local) by_key le h (λ d. link_keys_same _ (from, local) (has d)))
merged_over old rows at next (Node router transit) by_key le h has = absurd (link_not_mark _ router (has (some_row rows next h)))

-- Suppose that the key of a removal is below the keys of the rows (links) from `next` on, and above
-- the key of the last merged row. Then the removal changes nothing.
removed_none : (old rows : List Link) (at next : ℕ) (k : Key) → AreByKey (old ++ drop at rows) → at ≤ next → AllWithin (λ m. key_cmp (key_of m) k ≡ Greater) rows next (length rows) → EndsBelow (old ++ between at next rows) (link_key k)
    → (database_of ((old ++ between at next rows) ++ drop next rows) ≡ relinked (database_of (old ++ drop at rows)) (Remove k.0 k.1)) × AreByKey ((old ++ between at next rows) ++ drop next rows)
removed_none old rows at next k by_key le gap last =
    let out : List Link = old ++ between at next rows in
    let same : out ++ drop next rows ≡ old ++ drop at rows = copied old rows at next le in
    let sorted : AreByKey (out ++ drop next rows) = subst AreByKey (sym same) by_key in
    let none : All (λ l. key_of l ≢ k) (out ++ drop next rows) = λ i d h. apart out sorted last i d h in (
      relinked-absent _ k.0 k.1 (link_at-no_row (out ++ drop next rows) k none) ∙ ap (λ xs. relinked (database_of xs) (Remove k.0 k.1)) same,
      sorted,
    )
  where
    apart : (out : List Link) → AreByKey (out ++ drop next rows) → EndsBelow out (link_key k) → (i : ℕ) (d : Link) → i < length (out ++ drop next rows) → key_of (get_or (out ++ drop next rows) i d) ≢ k
    apart out sorted last i d h =
        elim (nat_lt i (length out)) as (λ b. nat_lt i (length out) ≡ b → key_of (get_or (out ++ drop next rows) i d) ≢ k) [
          | true ↦ λ e. let before : i < length out = grind (arith, nat_tests) in
              untied _ k (ap is_eq (below_key out (drop next rows) k sorted last i d (omega arith) before))
          | false ↦ λ e. let behind : length out ≤ i = grind (arith, nat_tests) in
              untied _ k (ap is_eq (above_copied out rows next k gap i d behind h))
        ] refl

-- Suppose that the keys of the rows (links) from `next` on are above the key of a change. If the
-- change puts a link, insert this link in front of these rows; for a removal, insert nothing. The
-- rows then make the changed database, and are still in order of their keys.
pub merged_before : (old rows : List Link) (at next : ℕ) (c : Change) → AreByKey (old ++ drop at rows) → at ≤ next → AllWithin (λ m. change_key_cmp (link_key (key_of m)) (key_changed c) ≡ Greater) rows next (length rows)
    → EndsBelow (old ++ between at next rows) (key_changed c)
    → (database_of (((old ++ between at next rows) ++ links_put (c ∷ [])) ++ drop next rows) ≡ relinked (database_of (old ++ drop at rows)) c)
    × AreByKey (((old ++ between at next rows) ++ links_put (c ∷ [])) ++ drop next rows)
merged_before old rows at next (Put l) by_key le gap last =
    let merged = entries-between old rows at next l by_key le gap last in
    (database_of-entries (relinked (database_of (old ++ drop at rows)) (Put l)) _ refl merged, by_key-entries _ _ merged)
merged_before old rows at next (Remove from local) by_key le gap last =
    subst (λ (out : List Link). (database_of (out ++ drop next rows) ≡ relinked (database_of (old ++ drop at rows)) (Remove from local)) × AreByKey (out ++ drop next rows))
    (sym (append-nil (old ++ between at next rows))) (removed_none old rows at next (from, local) by_key le gap last)
merged_before old rows at next (Node router transit) by_key le gap last =
    let same : old ++ drop at rows ≡ ((old ++ between at next rows) ++ []) ++ drop next rows = sym (ap (λ out. out ++ drop next rows) (append-nil (old ++ between at next rows)) ∙ copied old rows at next le) in
    (ap database_of (sym same), subst AreByKey same by_key)

-- Suppose that the last key of `old` and the keys of the rows (links) from `at` up to `next` are
-- below `k`. After these rows are appended to `old`, the key of the last row is still below `k`.
pub copied_below : (old rows : List Link) (at next : ℕ) (k : ChangeKey) → at ≤ next → next ≤ length rows → EndsBelow old k → AllWithin (λ m. change_key_cmp (link_key (key_of m)) k ≡ Less) rows at next
    → EndsBelow (old ++ between at next rows) k
copied_below old rows at next k le within last below = search (rules, get_or-append_right, get_or-between, get_or_append_left, length-append, length-between, nat_lt)

-- Suppose that the key of the last row (a link) is below the key of a change. If the change puts a
-- link, append this link. The key of the last row is then below each key above the change's key.
pub put_below : (out : List Link) (c : Change) (k : ChangeKey) → EndsBelow out (key_changed c) → change_key_cmp (key_changed c) k ≡ Less → EndsBelow (out ++ links_put (c ∷ [])) k
put_below out c k last less = search (rules, append-nil, change_keys_total, get_or_at, length_push)
