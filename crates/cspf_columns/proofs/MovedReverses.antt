-- How the column of reverses changes when one row (a link) is replaced, inserted or removed. During
-- the change, rows with the key of this row count as having no reverse. For each row, the column of
-- reverses has the index of the row's reverse, or `NO_LINK`.
use Rattle.std.proofs.Common.{◌≡◌, ◌≢◌, ℕ, ◌+◌, ◌-◌, ◌<◌, ◌≤◌, ◌⊎◌, List, length, map, cond, eqb, leb, slice_index_or, slice_set, sym, ap, subst, ◌∙◌, inl, inr, arith, rules}
use Rattle.std.specs.List.{HoldsAt, insert, remove as without}
use Rattle.std.proofs.lemmas.Bool.{cases_eq, cases_lt, eq-eqb, ne_eqb, le-leb, lt-leb}
use Rattle.std.proofs.lemmas.List.{length-set, length-map, get_or-set_same, get_or-set_other, get_or-map}
use Rattle.std.proofs.lemmas.List.Edits.{length-insert, length-remove, get_or-insert_below, get_or-insert_at, get_or-insert_above, get_or-remove_below, get_or-remove_above}
use Rattle.cspf_model.specs.declared.link.Link.{Link}
use Rattle.cspf_columns.specs.declared.limits.TheConstants.{NO_LINK, ROOM_FOR_LINKS}
use Rattle.cspf_model.specs.Database.{Key, key_of}
use Rattle.cspf_model.specs.Lemmas.LinkRows.{AreByKey}
use Rattle.cspf_columns.specs.Reverses.{AreReversesBut, no_key, same_key, index_behind, index_before}
use Rattle.cspf_columns.proofs.PairedRows.{IsPair, here, paired, column_of, open_pair, taken_in_unmet}

-- the row (a link) at the index `j` of the list `new` is also in the list `rows`, or `out` holds of
-- the row's key
abbrev IsFrom : (out : Key → Type 0) (rows new : List Link) (d : Link) (j : ℕ) → Type 0
IsFrom out rows new d j = out (key_of (slice_index_or new j d)) ⊎ ((k : ℕ) × (k < length rows) × (slice_index_or new j d ≡ slice_index_or rows k d))

-- lemmas on how an index changes: `NO_LINK` stays `NO_LINK`, an index of at least `at` changes to
-- `m`, and a lower index stays the same
still_none : (at n m : ℕ) → n ≡ NO_LINK → cond (eqb n NO_LINK) n (cond (leb at n) m n) ≡ NO_LINK
still_none at n m z = ap (λ b. cond b n (cond (leb at n) m n)) (eq-eqb n NO_LINK z) ∙ z

moved_from : (at n m : ℕ) → n ≢ NO_LINK → at ≤ n → cond (eqb n NO_LINK) n (cond (leb at n) m n) ≡ m
moved_from at n m some h = ap (λ b. cond b n (cond (leb at n) m n)) (ne_eqb n NO_LINK some) ∙ ap (λ b. cond b m n) (le-leb at n h)

kept_below : (at n m : ℕ) → n ≢ NO_LINK → n < at → cond (eqb n NO_LINK) n (cond (leb at n) m n) ≡ n
kept_below at n m some h = ap (λ b. cond b n (cond (leb at n) m n)) (ne_eqb n NO_LINK some) ∙ ap (λ b. cond b m n) (lt-leb at n h)

-- Lemmas on rows (links) and their column of reverses. Rows with the key `k` count as having no
-- reverse, and as being no row's reverse. For each row, the column of reverses has the index of the
-- row's reverse, or `NO_LINK`.
module _ (rows : List Link) (column : List ℕ) (k : Key) (few : length rows ≤ ROOM_FOR_LINKS) (are : AreReversesBut (same_key k) rows column) where
  -- Suppose that `move` gives the new index of each row (a link), and that all other new rows have
  -- the key `k`. Then `IsPair` holds of each moved row and the new index of its reverse.
  pair_moved : (new : List Link) (move : ℕ → ℕ) (d : Link) (i j : ℕ) → i < length rows → slice_index_or new j d ≡ slice_index_or rows i d
      → ((n : ℕ) → n < length rows → n ≢ NO_LINK → (¬ same_key k (key_of (slice_index_or rows n d))) → (move n ≢ NO_LINK) × (move n < length new) × (slice_index_or new (move n) d ≡ slice_index_or rows n d))
      → ((n : ℕ) → n ≡ NO_LINK → move n ≡ NO_LINK) → ((x : ℕ) → x < length new → IsFrom (same_key k) rows new d x)
      → IsPair (same_key k) new d j (move (slice_index_or column i 0))
  pair_moved new move d i j old same moves none from =
      let n = slice_index_or column i 0 in
      let is = paired (same_key k) rows column are i d old in
      elim (cases_eq n NO_LINK) [
        | inl z ↦ subst (IsPair (same_key k) new d j) (sym (none n z)) (open_pair (same_key k) new d j (λ x inside back. elim (from x inside) [
          | inl left ↦ inr left
          | inr old ↦ rw (same, old.2) (is.none z old.0 old.1 (rw (same, old.2) at back))
        ]))
        | inr some ↦
            let to = moves n (is.within some) some (is.kept some).1 in
            record {
              within = λ _. to.1;
              found = λ _. rw (same, to.2) (is.found some);
              kept = λ _. rw (same, to.2) (is.kept some);
              none = λ z. absurd (to.0 z);
            }
      ]

  -- lemmas on a link `l` with the key `k`
  module _ (l : Link) (has_key : key_of l ≡ k) (at : ℕ) where
    -- lemmas for the case that `l` replaces the row (a link) with the same key
    module _ (within : at < length rows) (has : HoldsAt (λ m. key_of m ≡ k) rows at) where
      abbrev over : List Link
      over = slice_set rows at l

      over_from : (d : Link) (j : ℕ) → j < length over → IsFrom (same_key k) rows over d j
      over_from d j inside = search rules

      pub put_over : AreReversesBut (same_key k) over column
      put_over = column_of (same_key k) over column (are.many ∙ sym (length-set rows at l)) (λ i d h.
          let n = slice_index_or column i 0 in
          let old : i < length rows = omega (arith, h, length-set rows at l) in
          let is = paired (same_key k) rows column are i d old in
          elim (cases_eq i at) [
            | inl same ↦
                let unpaired : n ≡ NO_LINK = elim (cases_eq n NO_LINK) [ inl z ↦ z | inr some ↦ absurd ((is.kept some).0 (ap (λ a. key_of (slice_index_or rows a d)) same ∙ has d)) ] in
                subst (IsPair (same_key k) over d i) (sym unpaired)
                (open_pair (same_key k) over d i (λ j inside back. inl (ap (λ a. key_of (slice_index_or over a d)) same ∙ ap key_of (get_or-set_same rows at l d within) ∙ has_key)))
            | inr apart ↦ pair_moved over (λ n. n) d i i old (get_or-set_other rows at i l d apart)
                (λ n inside some kept. (
                  some,
                  omega (arith, inside, length-set rows at l),
                  get_or-set_other rows at n l d (λ same. kept (ap (λ a. key_of (slice_index_or rows a d)) same ∙ has d)),
                ))
                (λ n z. z) (over_from d)
          ])

    -- lemmas for the case that `l` is inserted as a new row (a link)
    module _ (upto : at ≤ length rows) where
      abbrev wider : List Link
      wider = insert rows at l

      abbrev opened : List ℕ
      opened = insert (map (index_behind at) column) at NO_LINK

      long : length wider ≡ length rows + 1
      long = length-insert rows at l upto

      upto_column : at ≤ length (map (index_behind at) column)
      upto_column = omega (arith, upto, are.many, length-map column (index_behind at))

      row_below : (d : Link) (i : ℕ) → i < at → slice_index_or wider i d ≡ slice_index_or rows i d
      row_below d i h = get_or-insert_below rows at l d i h upto

      row_above : (d : Link) (i : ℕ) → at ≤ i → slice_index_or wider (i + 1) d ≡ slice_index_or rows i d
      row_above d i h = get_or-insert_above rows at l d i h upto

      wider_from : (d : Link) (j : ℕ) → j < length wider → IsFrom (same_key k) rows wider d j
      wider_from d j inside = elim (cases_lt j at) [
        | inl below ↦ inr (j, omega (arith, below, upto), row_below d j below)
        | inr from ↦ elim (cases_eq j at) [
          | inl same ↦ inl (ap (λ a. key_of (slice_index_or wider a d)) same ∙ ap key_of (get_or-insert_at rows at l d upto) ∙ has_key)
          | inr apart ↦
              let back : j - 1 + 1 ≡ j = omega (arith, from, apart) in
              inr (j - 1, omega (arith, inside, long, back), subst (λ a. slice_index_or wider a d ≡ slice_index_or rows (j - 1) d) back (row_above d (j - 1) (omega (arith, from, back))))
        ]
      ]

      -- after `l` is inserted, `IsPair` holds of each old row (a link) and the new index of its
      -- reverse
      pair_behind : (d : Link) (i j : ℕ) → i < length rows → slice_index_or wider j d ≡ slice_index_or rows i d → IsPair (same_key k) wider d j (index_behind at (slice_index_or column i 0))
      pair_behind d i j old same =
          pair_moved wider (index_behind at) d i j old same (λ n inside some _. elim (cases_lt n at) [
            | inl below ↦ rw (kept_below at n (n + 1) some below) (some, omega (arith, inside, long), row_below d n below)
            | inr from ↦ rw (moved_from at n (n + 1) some from) (λ e. absurd (omega (arith, e, inside, few)), omega (arith, inside, long), row_above d n from)
          ]) (λ n. still_none at n (n + 1)) (wider_from d)

      read : (i : ℕ) → i < length column → slice_index_or (map (index_behind at) column) i 0 ≡ index_behind at (slice_index_or column i 0)
      read i h = get_or-map (index_behind at) column i 0 0 h

      pub put_between : AreReversesBut (same_key k) wider opened
      put_between = column_of (same_key k) wider opened (omega (arith, length-insert (map (index_behind at) column) at NO_LINK upto_column, length-map column (index_behind at), are.many, long)) (λ i d h. elim (cases_lt i at) [
        | inl below ↦
            let is : slice_index_or opened i 0 ≡ index_behind at (slice_index_or column i 0) = get_or-insert_below (map (index_behind at) column) at NO_LINK 0 i below upto_column ∙ read i (omega (arith, below, upto, are.many)) in
            subst (IsPair (same_key k) wider d i) (sym is) (pair_behind d i i (omega (arith, below, upto)) (row_below d i below))
        | inr from ↦ elim (cases_eq i at) [
          | inl same ↦
              let is : slice_index_or opened i 0 ≡ NO_LINK = ap (λ a. slice_index_or opened a 0) same ∙ get_or-insert_at (map (index_behind at) column) at NO_LINK 0 upto_column in
              subst (IsPair (same_key k) wider d i) (sym is)
              (open_pair (same_key k) wider d i (λ j inside back. inl (ap (λ a. key_of (slice_index_or wider a d)) same ∙ ap key_of (get_or-insert_at rows at l d upto) ∙ has_key)))
          | inr apart ↦
              let one : i - 1 + 1 ≡ i = omega (arith, from, apart) in
              let old : i - 1 < length rows = omega (arith, h, long, one) in
              let is : slice_index_or opened i 0 ≡ index_behind at (slice_index_or column (i - 1) 0) =
              ap (λ a. slice_index_or opened a 0) (sym one) ∙ get_or-insert_above (map (index_behind at) column) at NO_LINK 0 (i - 1) (omega (arith, from, one, apart)) upto_column ∙ read (i - 1) (omega (arith, old, are.many)) in
              subst (IsPair (same_key k) wider d i) (sym is)
              (pair_behind d (i - 1) i old (subst (λ a. slice_index_or wider a d ≡ slice_index_or rows (i - 1) d) one (row_above d (i - 1) (omega (arith, from, one, apart)))))
        ]
      ])

  -- lemmas for the case that the row (a link) with the key `k` is removed
  module _ (by_key : AreByKey rows) (at : ℕ) (within : at < length rows) (has : HoldsAt (λ m. key_of m ≡ k) rows at) where
    abbrev fewer : List Link
    fewer = without rows at

    abbrev closed : List ℕ
    closed = map (index_before at) (without column at)

    short : length fewer + 1 ≡ length rows
    short = length-remove rows at within

    fewer_below : (d : Link) (i : ℕ) → i < at → slice_index_or fewer i d ≡ slice_index_or rows i d
    fewer_below d i h = get_or-remove_below rows at d i h within

    fewer_above : (d : Link) (i : ℕ) → at ≤ i → slice_index_or fewer i d ≡ slice_index_or rows (i + 1) d
    fewer_above d i h = get_or-remove_above rows at d i h within

    fewer_from : (d : Link) (j : ℕ) → j < length fewer → (i : ℕ) × (i < length rows) × (i ≢ at) × (slice_index_or fewer j d ≡ slice_index_or rows i d)
    fewer_from d j inside = elim (cases_lt j at) [
      | inl below ↦ (j, omega (arith, inside, short), λ e. absurd (omega (arith, e, below)), fewer_below d j below)
      | inr from ↦ (j + 1, omega (arith, inside, short), λ e. absurd (omega (arith, e, from)), fewer_above d j from)
    ]

    pair_before : (d : Link) (i j : ℕ) → i < length rows → slice_index_or fewer j d ≡ slice_index_or rows i d → IsPair (same_key k) fewer d j (index_before at (slice_index_or column i 0))
    pair_before d i j old same =
        pair_moved fewer (index_before at) d i j old same (λ n inside some kept. elim (cases_lt n at) [
          | inl below ↦ rw (kept_below at n (n - 1) some below) (some, omega (arith, below, within, short), fewer_below d n below)
          | inr from ↦
              let apart : n ≢ at = λ e. kept (ap (λ a. key_of (slice_index_or rows a d)) e ∙ has d) in
              let one : n - 1 + 1 ≡ n = omega (arith, from, apart) in
              rw (moved_from at n (n - 1) some from) (λ e. absurd (omega (arith, e, inside, few)), omega (arith, inside, short, one), fewer_above d (n - 1) (omega (arith, from, apart, one)) ∙ ap (λ a. slice_index_or rows a d) one)
        ]) (λ n. still_none at n (n - 1)) (λ x inside. let from = fewer_from d x inside in inr (from.0, from.1, from.3))

    read_before : (i : ℕ) → i < length (without column at) → slice_index_or closed i 0 ≡ index_before at (slice_index_or (without column at) i 0)
    read_before i h = get_or-map (index_before at) (without column at) i 0 0 h

    taken_out_but : AreReversesBut (same_key k) fewer closed
    taken_out_but =
        let in_column : at < length column = omega (arith, within, are.many) in
        let short_column = length-remove column at in_column in
        column_of (same_key k) fewer closed (omega (arith, length-map (without column at) (index_before at), short_column, short, are.many)) (λ i d h. elim (cases_lt i at) [
          | inl below ↦
              let is : slice_index_or closed i 0 ≡ index_before at (slice_index_or column i 0) = read_before i (omega (arith, h, short, short_column, are.many)) ∙ ap (index_before at) (get_or-remove_below column at 0 i below in_column) in
              subst (IsPair (same_key k) fewer d i) (sym is) (pair_before d i i (omega (arith, h, short)) (fewer_below d i below))
          | inr from ↦
              let is : slice_index_or closed i 0 ≡ index_before at (slice_index_or column (i + 1) 0) = read_before i (omega (arith, h, short, short_column, are.many)) ∙ ap (index_before at) (get_or-remove_above column at 0 i from in_column) in
              subst (IsPair (same_key k) fewer d i) (sym is) (pair_before d (i + 1) i (omega (arith, h, short)) (fewer_above d i from))
        ])

    pub taken_out : AreReversesBut no_key fewer closed
    taken_out = taken_in_unmet k fewer closed
        (λ j d inside same. let from = fewer_from d j inside in from.2 (here rows by_key at within k has from.0 d from.1 (sym (ap key_of from.3) ∙ same))) taken_out_but
