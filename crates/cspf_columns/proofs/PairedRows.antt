-- The column of reverses while one row (a link) changes. The row is first separated from its
-- reverse, then changed, and then paired with its new reverse. For each row, the column of reverses
-- has the index of the row's reverse, or `NO_LINK`.
use Rattle.std.proofs.Common.{◌≡◌, ◌≢◌, ℕ, ◌<◌, ◌⊎◌, List, [], ◌∷◌, All, length, slice_index_or, slice_set, refl, sym, ap, subst, ◌∙◌, inl, inr, arith}
use Rattle.std.specs.List.{HoldsAt}
use Rattle.std.proofs.lemmas.Bool.{cases_eq}
use Rattle.std.proofs.lemmas.List.{get_or_default, length-set, get_or-set_same, get_or-set_other}
use Rattle.cspf_model.specs.declared.link.Link.{Link}
use Rattle.cspf_columns.specs.declared.limits.TheConstants.{NO_LINK}
use Rattle.cspf_model.specs.Database.{Key, key_of, IsReverse}
use Rattle.cspf_model.specs.Lemmas.LinkRows.{AreByKey}
use Rattle.cspf_columns.specs.Reverses.{IsIndexOfReverse, AreReversesBut, no_key, same_key}
use Rattle.cspf_columns.proofs.RowOrder.{one_index}
use Rattle.cspf_columns.proofs.ReverseColumn.{neither}

-- if `r` is the reverse of `l`, then `l` is the reverse of `r`
pub turned : (l r : Link) → IsReverse l r → IsReverse r l
turned l r is = record { from = sym is.to; local = sym is.remote; to = sym is.from; remote = sym is.local }

-- all reverses of a link have the same key
pub one_key : (l r s : Link) → IsReverse l r → IsReverse l s → key_of r ≡ key_of s
one_key l r s is also = λ t. ((is.from ∙ sym also.from) t, (is.local ∙ sym also.local) t)

-- `n` is the index of the reverse of the row (a link) at the index `i`, or `NO_LINK` if this row
-- has no reverse. Rows whose keys satisfy `out` count as having no reverse, and as being no row's
-- reverse.
pub record IsPair (out : Key → Type 0) (rows : List Link) (d : Link) (i n : ℕ) : Type 0 where
  pub within : n ≢ NO_LINK → n < length rows
  pub found : n ≢ NO_LINK → IsReverse (slice_index_or rows i d) (slice_index_or rows n d)
  pub kept : n ≢ NO_LINK → (¬ out (key_of (slice_index_or rows i d))) × ¬ out (key_of (slice_index_or rows n d))
  pub none : n ≡ NO_LINK → (j : ℕ) → j < length rows → IsReverse (slice_index_or rows i d) (slice_index_or rows j d)
      → out (key_of (slice_index_or rows i d)) ⊎ out (key_of (slice_index_or rows j d))

pair_of : (out : Key → Type 0) (rows : List Link) (d : Link) (i n : ℕ) → IsIndexOfReverse out rows (slice_index_or rows i d) n → IsPair out rows d i n
pair_of out rows d i n is =
    let l = slice_index_or rows i d in
    record {
      within = is.within;
      found = λ some. subst (IsReverse l) (get_or_default rows n l d (is.within some)) (is.found some);
      kept = λ some. ((is.kept some).0, subst (λ r. ¬ out (key_of r)) (get_or_default rows n l d (is.within some)) (is.kept some).1);
      none = λ z j inside back.
          let same = get_or_default rows j l d inside in
          subst (λ r. out (key_of l) ⊎ out (key_of r)) same (is.none z j inside (subst (IsReverse l) (sym same) back));
    }

index_of_pair : (out : Key → Type 0) (rows : List Link) (d : Link) (i n : ℕ) → IsPair out rows d i n → IsIndexOfReverse out rows (slice_index_or rows i d) n
index_of_pair out rows d i n is =
    let l = slice_index_or rows i d in
    record {
      within = is.within;
      found = λ some. subst (IsReverse l) (sym (get_or_default rows n l d (is.within some))) (is.found some);
      kept = λ some. ((is.kept some).0, subst (λ r. ¬ out (key_of r)) (sym (get_or_default rows n l d (is.within some))) (is.kept some).1);
      none = λ z j inside back.
          let same = get_or_default rows j l d inside in
          subst (λ r. out (key_of l) ⊎ out (key_of r)) (sym same) (is.none z j inside (subst (IsReverse l) same back));
    }

-- `IsPair` holds of the index of each row (a link) and the item at this index of the column
abbrev pub ArePaired : (out : Key → Type 0) (rows : List Link) (column : List ℕ) → Type 0
ArePaired out rows column = (i : ℕ) (d : Link) → i < length rows → IsPair out rows d i (slice_index_or column i 0)

pub paired : (out : Key → Type 0) (rows : List Link) (column : List ℕ) → AreReversesBut out rows column → ArePaired out rows column
paired out rows column are i d h = pair_of out rows d i (slice_index_or column i 0) (are.each i d h)

pub column_of : (out : Key → Type 0) (rows : List Link) (column : List ℕ) → length column ≡ length rows → ArePaired out rows column → AreReversesBut out rows column
column_of out rows column many are = record { many = many; each = λ i d h. index_of_pair out rows d i (slice_index_or column i 0) (are i d h) }

-- `IsPair` holds of the row (a link) at the index `i` and of `NO_LINK`, if `out` holds of the row's
-- key, or of the keys of all its reverses
pub open_pair : (out : Key → Type 0) (rows : List Link) (d : Link) (i : ℕ)
    → ((j : ℕ) → j < length rows → IsReverse (slice_index_or rows i d) (slice_index_or rows j d) → out (key_of (slice_index_or rows i d)) ⊎ out (key_of (slice_index_or rows j d)))
    → IsPair out rows d i NO_LINK
open_pair out rows d i none = record { within = λ some. absurd (some refl); found = λ some. absurd (some refl); kept = λ some. absurd (some refl); none = λ _. none }

-- Suppose that no row (a link) has the key `k`. Then the column of reverses stays correct if rows
-- with this key count as having no reverse. For each row, the column of reverses has the index of
-- the row's reverse, or `NO_LINK`.
pub left_out_unmet : (k : Key) (rows : List Link) (column : List ℕ) → All (λ l. key_of l ≢ k) rows → AreReversesBut no_key rows column → AreReversesBut (same_key k) rows column
left_out_unmet k rows column unmet are = column_of (same_key k) rows column are.many (λ i d h. let is = paired no_key rows column are i d h in record {
  within = is.within;
  found = is.found;
  kept = λ some. (unmet i d h, unmet (slice_index_or column i 0) d (is.within some));
  none = λ z j inside back. absurd (neither (is.none z j inside back));
})

pub taken_in_unmet : (k : Key) (rows : List Link) (column : List ℕ) → All (λ l. key_of l ≢ k) rows → AreReversesBut (same_key k) rows column → AreReversesBut no_key rows column
taken_in_unmet k rows column unmet are = column_of no_key rows column are.many (λ i d h. let is = paired (same_key k) rows column are i d h in record {
  within = is.within;
  found = is.found;
  kept = λ some. (λ bad. bad, λ bad. bad);
  none = λ z j inside back. elim (is.none z j inside back) [ inl same ↦ absurd (unmet i d h same) | inr same ↦ absurd (unmet j d inside same) ];
})

-- an item of the column of reverses that isn't `NO_LINK` is the index of a row (a link)
pub within_column : (rows : List Link) (column : List ℕ) (at : ℕ) → at < length rows → AreReversesBut no_key rows column → slice_index_or column at 0 ≢ NO_LINK → slice_index_or column at 0 < length column
within_column [] column at h are some = absurd (omega arith)
within_column (l ∷ rows) column at h are some = subst (λ n. slice_index_or column at 0 < n) (sym are.many) ((are.each at l h).within some)

-- lemmas on rows (links) in order of their keys, and on the row with the key `k` at the index `at`
module _ (rows : List Link) (by_key : AreByKey rows) (at : ℕ) (within : at < length rows) (k : Key) (has : HoldsAt (λ l. key_of l ≡ k) rows at) where
  -- if a row (a link) has the key `k`, its index is `at`
  pub here : (i : ℕ) (d : Link) → i < length rows → key_of (slice_index_or rows i d) ≡ k → i ≡ at
  here i d h same = one_index rows by_key i at d d h within (same ∙ sym (has d))

  -- Suppose that the row (a link) at `at` is the reverse of the row at `i`, and that the row at `n`
  -- is the reverse of the row at `at`. Then `i` is `n`.
  partner : (i n : ℕ) (d : Link) → i < length rows → n < length rows → IsReverse (slice_index_or rows at d) (slice_index_or rows n d) → IsReverse (slice_index_or rows i d) (slice_index_or rows at d) → i ≡ n
  partner i n d h inside is back = one_index rows by_key i n d d h inside (one_key (slice_index_or rows at d) _ _ (turned _ _ back) is)

  -- Suppose that the column has `NO_LINK` for the row (a link) at `at`. Then the column of reverses
  -- stays correct if rows with the key `k` of this row count as having no reverse. For each row,
  -- the column of reverses has the index of the row's reverse, or `NO_LINK`.
  pub left_out_open : (column : List ℕ) → slice_index_or column at 0 ≡ NO_LINK → AreReversesBut no_key rows column → AreReversesBut (same_key k) rows column
  left_out_open column unpaired are = column_of (same_key k) rows column are.many (λ i d h.
      let is = paired no_key rows column are i d h in
      let n = slice_index_or column i 0 in
      record {
        within = is.within;
        found = is.found;
        kept = λ some. (
          λ same. some (ap (λ a. slice_index_or column a 0) (here i d h same) ∙ unpaired),
          λ same.
              let back = subst (λ a. IsReverse (slice_index_or rows i d) (slice_index_or rows a d)) (here n d (is.within some) same) (is.found some) in
              neither ((paired no_key rows column are at d within).none unpaired i h (turned _ _ back)),
        );
        none = λ z j inside back. absurd (neither (is.none z j inside back));
      })

  -- Suppose that the row (a link) at `at` and its reverse both get `NO_LINK` in the column of
  -- reverses. The new column is correct if rows with the key `k` of the row at `at` count as having
  -- no reverse.
  pub left_out_parted : (column : List ℕ) (other : ℕ) → slice_index_or column at 0 ≡ other → other ≢ NO_LINK → AreReversesBut no_key rows column
      → AreReversesBut (same_key k) rows (slice_set (slice_set column other NO_LINK) at NO_LINK)
  left_out_parted column other is_other there are = column_of (same_key k) rows parted
      (length-set (slice_set column other NO_LINK) at NO_LINK ∙ length-set column other NO_LINK ∙ are.many)
      (λ i d h. elim (cases_eq i at) [ inl same ↦ at_it i d h same | inr apart ↦ elim (cases_eq i other) [ inl same ↦ at_other i d h apart same | inr also ↦ elsewhere i d h apart also ] ])
    where
      parted : List ℕ
      parted = slice_set (slice_set column other NO_LINK) at NO_LINK

      mine : (d : Link) → IsPair no_key rows d at other
      mine d = subst (IsPair no_key rows d at) is_other (paired no_key rows column are at d within)

      inside_other : (d : Link) → other < length rows
      inside_other d = (mine d).within there

      at_it : (i : ℕ) (d : Link) → i < length rows → i ≡ at → IsPair (same_key k) rows d i (slice_index_or parted i 0)
      at_it i d h same =
          let is : slice_index_or parted i 0 ≡ NO_LINK = ap (λ a. slice_index_or parted a 0) same ∙ get_or-set_same (slice_set column other NO_LINK) at NO_LINK 0 (omega (arith, within, are.many, length-set column other NO_LINK)) in
          subst (IsPair (same_key k) rows d i) (sym is) (open_pair (same_key k) rows d i (λ j inside back. inl (ap (λ a. key_of (slice_index_or rows a d)) same ∙ has d)))

      read : (i : ℕ) → i ≢ at → slice_index_or parted i 0 ≡ slice_index_or (slice_set column other NO_LINK) i 0
      read i apart = get_or-set_other (slice_set column other NO_LINK) at i NO_LINK 0 apart

      at_other : (i : ℕ) (d : Link) → i < length rows → i ≢ at → i ≡ other → IsPair (same_key k) rows d i (slice_index_or parted i 0)
      at_other i d h apart same =
          let is : slice_index_or parted i 0 ≡ NO_LINK = read i apart ∙ ap (λ a. slice_index_or (slice_set column other NO_LINK) a 0) same ∙ get_or-set_same column other NO_LINK 0 (omega (arith, inside_other d, are.many)) in
          let back = turned _ _ ((mine d).found there) in
          subst (IsPair (same_key k) rows d i) (sym is) (open_pair (same_key k) rows d i (λ j inside found.
          inr (one_key (slice_index_or rows other d) _ _ (subst (λ a. IsReverse (slice_index_or rows a d) (slice_index_or rows j d)) same found) back ∙ has d)))

      elsewhere : (i : ℕ) (d : Link) → i < length rows → i ≢ at → i ≢ other → IsPair (same_key k) rows d i (slice_index_or parted i 0)
      elsewhere i d h apart also =
          let is_old : slice_index_or parted i 0 ≡ slice_index_or column i 0 = read i apart ∙ get_or-set_other column other i NO_LINK 0 also in
          let n = slice_index_or column i 0 in
          let is = paired no_key rows column are i d h in
          subst (IsPair (same_key k) rows d i) (sym is_old) (record {
            within = is.within;
            found = is.found;
            kept = λ some. (
              λ same. apart (here i d h same),
              λ same.
                  let back = subst (λ a. IsReverse (slice_index_or rows i d) (slice_index_or rows a d)) (here n d (is.within some) same) (is.found some) in
                  also (partner i other d h (inside_other d) ((mine d).found there) back),
            );
            none = λ z j inside back. absurd (neither (is.none z j inside back));
          })

  -- Lemmas on pairing the row (a link) at `at` with its reverse. `other` is the index of the
  -- reverse, or `NO_LINK` if there is none. In `column`, the row still counts as having no reverse.
  module _ (column : List ℕ) (are : AreReversesBut (same_key k) rows column) (other : ℕ) (e : Link) (is : IsIndexOfReverse no_key rows (slice_index_or rows at e) other) where
    -- `IsPair` holds of the row (a link) at `at` and of `other`
    mine_now : (d : Link) → IsPair no_key rows d at other
    mine_now d = pair_of no_key rows d at other (subst (λ l. IsIndexOfReverse no_key rows l other) (get_or_default rows at e d within) is)

    -- if the row (a link) at `at` has no reverse, the column is the column of reverses of all rows
    pub taken_in_open : other ≡ NO_LINK → AreReversesBut no_key rows column
    taken_in_open unpaired = column_of no_key rows column are.many (λ i d h.
        let is = paired (same_key k) rows column are i d h in
        record {
          within = is.within;
          found = is.found;
          kept = λ some. (λ bad. bad, λ bad. bad);
          none = λ z j inside back. elim (is.none z j inside back) [
            | inl same ↦ absurd (neither ((mine_now d).none unpaired j inside (subst (λ a. IsReverse (slice_index_or rows a d) (slice_index_or rows j d)) (here i d h same) back)))
            | inr same ↦ absurd (neither ((mine_now d).none unpaired i h (turned _ _ (subst (λ a. IsReverse (slice_index_or rows i d) (slice_index_or rows a d)) (here j d inside same) back))))
          ];
        })

    -- Suppose that the row (a link) at `at` has a reverse, and that each of these two rows gets the
    -- index of the other row. Then the column is the column of reverses of all rows.
    pub taken_in_paired : other ≢ NO_LINK → at ≢ NO_LINK → AreReversesBut no_key rows (slice_set (slice_set column other at) at other)
    taken_in_paired there below = column_of no_key rows together (length-set (slice_set column other at) at other ∙ length-set column other at ∙ are.many)
        (λ i d h. elim (cases_eq i at) [ inl same ↦ at_it i d h same | inr apart ↦ elim (cases_eq i other) [ inl same ↦ at_other i d h apart same | inr also ↦ elsewhere i d h apart also ] ])
      where
        together : List ℕ
        together = slice_set (slice_set column other at) at other

        at_it : (i : ℕ) (d : Link) → i < length rows → i ≡ at → IsPair no_key rows d i (slice_index_or together i 0)
        at_it i d h same =
            let read : slice_index_or together i 0 ≡ other = ap (λ a. slice_index_or together a 0) same ∙ get_or-set_same (slice_set column other at) at other 0 (omega (arith, within, are.many, length-set column other at)) in
            subst (IsPair no_key rows d i) (sym read) (subst (λ a. IsPair no_key rows d a other) (sym same) (mine_now d))

        at_other : (i : ℕ) (d : Link) → i < length rows → i ≢ at → i ≡ other → IsPair no_key rows d i (slice_index_or together i 0)
        at_other i d h apart same =
            let read : slice_index_or together i 0 ≡ at = get_or-set_other (slice_set column other at) at i other 0 apart ∙ ap (λ a. slice_index_or (slice_set column other at) a 0) same
            ∙ get_or-set_same column other at 0 (omega (arith, (mine_now d).within there, are.many)) in
            subst (IsPair no_key rows d i) (sym read) (record {
              within = λ some. within;
              found = λ some. subst (λ a. IsReverse (slice_index_or rows a d) (slice_index_or rows at d)) (sym same) (turned _ _ ((mine_now d).found there));
              kept = λ some. (λ bad. bad, λ bad. bad);
              none = λ z. absurd (below z);
            })

        elsewhere : (i : ℕ) (d : Link) → i < length rows → i ≢ at → i ≢ other → IsPair no_key rows d i (slice_index_or together i 0)
        elsewhere i d h apart also =
            let read : slice_index_or together i 0 ≡ slice_index_or column i 0 = get_or-set_other (slice_set column other at) at i other 0 apart ∙ get_or-set_other column other i at 0 also in
            let is = paired (same_key k) rows column are i d h in
            subst (IsPair no_key rows d i) (sym read) (record {
              within = is.within;
              found = is.found;
              kept = λ some. (λ bad. bad, λ bad. bad);
              none = λ z j inside back. elim (is.none z j inside back) [
                | inl same ↦ absurd (apart (here i d h same))
                | inr same ↦ absurd (also (partner i other d h ((mine_now d).within there) ((mine_now d).found there) (subst (λ a. IsReverse (slice_index_or rows i d) (slice_index_or rows a d)) (here j d inside same) back)))
              ];
            })
