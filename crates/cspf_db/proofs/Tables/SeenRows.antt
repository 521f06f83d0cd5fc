-- Lemmas on which row (a link) each change affects. If no two changes affect the same row, they
-- have different keys.
use mathlib.Core.Bool.{true≢false}
use Rattle.std.proofs.Common.{◌≡◌, ◌≢◌, ℕ, ◌+◌, ◌<◌, ◌||◌, Bool, true, false, not, Option, Some, None, IfSome, IfNone, List, All, [], ◌∷◌, take, length, get_or, slice_index_or, Result, IfOk, IsOkAnd, IsSomeAnd, inl, inr, sym, ap, subst, ◌∙◌, arith, rules}
use Rattle.std.specs.Ordering.{eq_by_cmp}
use Rattle.std.specs.List.{HoldsAt, list_any}
use Rattle.std.proofs.lemmas.Bool.{cases_lt}
use Rattle.std.proofs.lemmas.List.{get_or_default, get_or-set_same, get_or-set_other}
use Rattle.std.proofs.lemmas.List.Folds.{list_any_more}
use Rattle.cspf_columns.proofs.RowOrder.{one_index}
use Rattle.cspf_columns.specs.declared.columns.Columns.{Columns}
use Rattle.cspf_db.specs.declared.table.fit.tally.Tally.{Tally}
use Rattle.cspf_db.specs.Tables.Tallies.{IsRowOf, IsSeenAt, AreOnSeenRows, IsTallyOf}
use Rattle.cspf_model.specs.declared.link.Link.{Link}
use Rattle.cspf_model.specs.declared.batch.Change.{Change}
use Rattle.cspf_model.specs.Changes.{change_key_cmp, link_key, key_changed}
use Rattle.cspf_model.specs.Database.{Key, key_of}
use Rattle.cspf_model.specs.Lemmas.LinkRows.{AreByKey}
use Rattle.cspf_model.specs.Lemmas.RepeatedKeys.{is_changed, IsNewAt}
use Rattle.cspf_model.specs.Refusals.{AreOnceEach}
use Rattle.cspf_model.proofs.Databases.Keys.{keys_apart_from}

-- `row` is the index of the row (a link) with the key `k`, if there is such a row
pub record IsRowWith (rows : List Link) (k : Key) (row : Option ℕ) : Type 0 where
  pub bound : IfSome row (λ at. at < length rows)
  pub some : IfSome row (HoldsAt (λ l. key_of l ≡ k) rows)
  pub none : IfNone row (All (λ l. key_of l ≢ k) rows)

-- If a change has the key of a link, the change affects the row (a link) with this key.
pub row_of_key : (rows : List Link) (change : Change) (k : Key) (row : Option ℕ) → link_key k ≡ key_changed change → IsRowWith rows k row → IsRowOf rows change row
row_of_key rows change k row is found = search rules

pub row_with_key : (rows : List Link) (change : Change) (k : Key) (row : Option ℕ) → link_key k ≡ key_changed change → IsRowOf rows change row → IsRowWith rows k row
row_with_key rows change k row is found = search rules

-- If the negation of a test is true, the test itself is false.
off : (b : Bool) → not b ≡ true → b ≡ false
off b e = search rules

-- Suppose that `AreOnSeenRows` holds for the index `at`. If the change at this index affects a row
-- (a link) whose flag in `seen` is false, no earlier change has the same key.
new_here : (rows : List Link) (changes : List Change) (at : ℕ) (change : Change) (row : ℕ) (seen : List Bool) → at < length changes → change ≡ get_or changes at change → row < length rows
    → HoldsAt (λ l. link_key (key_of l) ≡ key_changed change) rows row → slice_index_or seen row true ≡ false → AreOnSeenRows rows changes seen at → IsNewAt changes at
new_here [] changes at change row seen h is inside on unseen before d = absurd (omega (arith, inside))
new_here (l ∷ rows) changes at change row seen h is inside on unseen before d =
    subst (λ k. is_changed (take at changes) k ≡ false) (on l ∙ ap key_changed (is ∙ get_or_default changes at change d h)) (off (is_changed (take at changes) (link_key (key_of (get_or (l ∷ rows) row l)))) (before.untouched row l inside unseen))

-- Suppose that `AreOnSeenRows` holds for the index `at`, and that the change at this index affects
-- a row (a link) whose flag is false. After this flag is set, `AreOnSeenRows` holds for the next
-- index.
pub seen_more : (rows : List Link) → AreByKey rows → (changes : List Change) (at : ℕ) (change : Change) → at < length changes → change ≡ get_or changes at change → (row : Option ℕ) → IsRowOf rows change row
    → (old new : List Bool) → IsSomeAnd row (IsSeenAt old new) → AreOnSeenRows rows changes old at → AreOnSeenRows rows changes new (at + 1)
seen_more rows by_key changes at change h is None found old new one before = absurd one
seen_more rows by_key changes at change h is (Some row) found old new one before = record {
  new = λ k below. elim (cases_lt k at) [
    | inl earlier ↦ before.new k earlier
    | inr upto ↦ let here : at ≡ k = omega (arith, below, upto) in subst (IsNewAt changes) here (new_here rows changes at change row old h is found.bound found.some one.unseen before)
  ];
  untouched = λ other d within unseen.
      let k = link_key (key_of (get_or rows other d)) in
      let tie = λ (c : Change). eq_by_cmp change_key_cmp k (key_changed c) in
      let apart : other ≢ row = λ same. true≢false (sym (get_or-set_same old row true true one.within) ∙ ap (λ xs. get_or xs row true) (sym one.seen) ∙ ap (λ n. get_or new n true) (sym same) ∙ unseen) in
      let was : get_or old other true ≡ false = sym (get_or-set_other old row other true true apart) ∙ ap (λ xs. get_or xs other true) (sym one.seen) ∙ unseen in
      let others : list_any tie (take at changes) ≡ false = off (list_any tie (take at changes)) (before.untouched other d within was) in
      let this : tie (get_or changes at change) ≡ false =
      subst (λ q. eq_by_cmp change_key_cmp k q ≡ false) (found.some d ∙ ap key_changed is) (keys_apart_from (key_of (get_or rows other d)) (key_of (get_or rows row d)) (λ same. apart (one_index rows by_key other row d d within found.bound same))) in
      ap not (list_any_more tie changes at change h ∙ ap (λ b. b || tie (get_or changes at change)) others ∙ this);
}

-- If the tally says that no two changes affect the same row (a link), no two changes have the same
-- key. A tally is a summary of what changes do to the links and the routers.
pub told_apart : (c : Columns) (changes : List Change) (r : Result Tally ℕ) → IfOk r (IsTallyOf c changes) → IsOkAnd r (λ t. t.apart ≡ true) → AreOnceEach changes
told_apart c changes r is on = search rules
