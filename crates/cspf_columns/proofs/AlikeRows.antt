-- Suppose that two lists of rows (links) have the same length, and that the rows at the same index
-- join the same two interfaces. Then both lists have the same column of ends, column of reverses
-- and spans. For each row, the column of ends has the index of the router at which the row ends.
-- For each row, the column of reverses has the index of the row's reverse, or `NO_LINK`. A router's
-- span is the range of the rows that begin at it, with bounds of their local addresses.
use Rattle.std.proofs.Common.{◌≡◌, ◌≢◌, ℕ, ◌+◌, ◌<◌, ◌≤◌, Bool, true, false, List, [], ◌∷◌, ◌++◌, All, Contains, cond, drop, length, map, nat_eq, slice_index, slice_index_or, slice_set, take, refl, sym, ap, subst, ◌∙◌, inl, inr, arith, rules}
use Rattle.std.specs.List.{HoldsAt, filter, between}
use Rattle.std.specs.Ordering.{nat_cmp}
use Rattle.std.specs.FinSet as set
use Rattle.std.proofs.lemmas.List.{nil_from_length, length-append, length-map, drop-map, get_or-map, map-set, set-get_or, take-map, append-nil}
use Rattle.std.proofs.lemmas.List.Edits.{split_between, length-between, get_or-between}
use Rattle.std.proofs.lemmas.List.Elements.{All-head, All-tail, Contains-get_or, filter-append, filter_passes}
use Rattle.cspf_model.specs.declared.link.Link.{Link}
use Rattle.cspf_columns.specs.declared.spans.Span.{Span}
use Rattle.cspf_model.specs.declared.batch.Change.{Change}
use Rattle.cspf_model.specs.declared.batch.Change.TheVariants.{Put, Remove, Node}
use Rattle.cspf_model.specs.Database.{Key, key_of, IsReverse}
use Rattle.cspf_columns.specs.Index.{router_list}
use Rattle.cspf_columns.specs.AlikeChanges.{interfaces_of, IsAlike, RunAlike}
use Rattle.cspf_model.specs.Lemmas.CountedEnds.{AnyEndsAt}
use Rattle.cspf_model.specs.Lemmas.MarkChanges.{all_marked}
use Rattle.cspf_model.specs.Lemmas.LinkRows.{database_of, AreByKey}
use Rattle.cspf_columns.specs.Rows.{AreEndsOf, AreRising, AreSpansOf, HasSameEnds, IsEndColumn, IsSpanOf}
use Rattle.cspf_columns.specs.Reverses.{AreReversesBut, no_key}
use Rattle.cspf_columns.proofs.PairedRows.{paired, column_of}
use Rattle.cspf_columns.proofs.RouterColumn.{column_table, router_list-column}
use Rattle.cspf_columns.proofs.RouterLists.{listed_end, rising-router_list}
use Rattle.cspf_columns.proofs.RowOrder.{one_index}
use Rattle.cspf_columns.proofs.RowSpans.{all_kept}

-- if a row (a link) is replaced by a link that joins the same two interfaces, each row joins the
-- same two interfaces as before
pub written_alike : (rows : List Link) (at : ℕ) → at < length rows → (l : Link) → HoldsAt (λ m. HasSameEnds m l) rows at → RunAlike rows (slice_set rows at l)
written_alike rows at within l alike =
    let same : interfaces_of (slice_index_or rows at l) ≡ interfaces_of l = λ t. (((alike l).from t, (alike l).local t), ((alike l).to t, (alike l).remote t)) in
    let mine : interfaces_of l ≡ slice_index_or (map interfaces_of rows) at (interfaces_of l) = sym same ∙ sym (get_or-map interfaces_of rows at l (interfaces_of l) within) in
    map-set interfaces_of rows at l ∙ ap (λ n. slice_set (map interfaces_of rows) at n) mine ∙ set-get_or (map interfaces_of rows) at (interfaces_of l)

-- if some row (a link) joins the two interfaces of the link `l`, this row has an index below
-- `length rows`
row_alike : (rows : List Link) (l : Link) → Contains (map interfaces_of rows) (interfaces_of l) → (d : Link) → (k : ℕ) × (k < length rows) × (interfaces_of (slice_index_or rows k d) ≡ interfaces_of l)
row_alike rows l (k, within, is) d =
    let inside : k < length rows = omega (arith, within, length-map rows interfaces_of) in
    (k, inside, sym (get_or-map interfaces_of rows k d (interfaces_of l) inside) ∙ is)

pub contains_alike : (rows : List Link) (at : ℕ) → at < length rows → (l : Link) → HoldsAt (λ m. HasSameEnds m l) rows at → Contains (map interfaces_of rows) (interfaces_of l)
contains_alike rows at within l alike =
    (at, omega (arith, within, length-map rows interfaces_of), get_or-map interfaces_of rows at l (interfaces_of l) within ∙ λ t. (((alike l).from t, (alike l).local t), ((alike l).to t, (alike l).remote t)))

-- if some row (a link) joins the two interfaces of the link `l`, some row has the key of `l`
pub key_alike : (rows : List Link) (l : Link) → Contains (map interfaces_of rows) (interfaces_of l) → All (λ m. key_of m ≢ key_of l) rows → ⊥
key_alike rows l some none = let row = row_alike rows l some l in none row.0 l row.1 (ap (λ p. p.0) row.2)

-- if some row (a link) joins the two interfaces of the link `l`, then the row with the key of `l`
-- joins them
pub found_alike : (rows : List Link) → AreByKey rows → (l : Link) → Contains (map interfaces_of rows) (interfaces_of l) → (at : ℕ) → at < length rows → HoldsAt (λ m. key_of m ≡ key_of l) rows at → HoldsAt (λ m. HasSameEnds m l) rows at
found_alike rows by_key l some at within key d =
    let row = row_alike rows l some d in
    let here : row.0 ≡ at = one_index rows by_key row.0 at d d row.1 within (ap (λ p. p.0) row.2 ∙ sym (key d)) in
    let one : interfaces_of (slice_index_or rows at d) ≡ interfaces_of l = subst (λ n. interfaces_of (slice_index_or rows n d) ≡ interfaces_of l) here row.2 in
    record { from = ap (λ p. p.0.0) one; local = ap (λ p. p.0.1) one; to = ap (λ p. p.1.0) one; remote = ap (λ p. p.1.1) one }

-- Changes that only replace links by links between the same two interfaces don't change the marks.
-- A mark says that a router has no transit.
pub unmarked : (rows : List Link) (cs : List Change) (marks : set.FinSet nat_cmp) → All (IsAlike rows) cs → marks ≡ all_marked marks cs
unmarked rows [] marks all = refl
unmarked rows (Put l ∷ cs) marks all = unmarked rows cs marks (All-tail (IsAlike rows) (Put l) cs all)
unmarked rows (Remove from local ∷ cs) marks all = absurd (All-head (IsAlike rows) (Remove from local) cs all)
unmarked rows (Node router transit ∷ cs) marks all = absurd (All-head (IsAlike rows) (Node router transit) cs all)

-- Suppose that `l` and `m` join the same two interfaces, and that `r` and `s` join the same two
-- interfaces. If `r` is the reverse of `l`, then `s` is the reverse of `m`.
reverse_alike : (l m r s : Link) → HasSameEnds l m → HasSameEnds r s → IsReverse l r → IsReverse m s
reverse_alike l m r s same also is = search rules

turned_about : (l m : Link) → HasSameEnds l m → HasSameEnds m l
turned_about l m same = record { from = sym same.from; local = sym same.local; to = sym same.to; remote = sym same.remote }

-- if the rows (links) at each index of two lists begin at the same router, both lists have the same
-- number of rows that begin at a given router
count_alike : (router : ℕ) (rows new : List Link) → map (λ (l : Link). l.from) new ≡ map (λ (l : Link). l.from) rows
    → length (filter (λ l. nat_eq l.from router) new) ≡ length (filter (λ l. nat_eq l.from router) rows)
count_alike router [] [] same = refl
count_alike router [] (m ∷ new) same = absurd (omega (arith, ap length same))
count_alike router (l ∷ rows) [] same = absurd (omega (arith, ap length same))
count_alike router (l ∷ rows) (m ∷ new) same =
    let p : Link → Bool = λ n. nat_eq n.from router in
    let first : m.from ≡ l.from = ap (λ ns. slice_index ns 0) same in
    let rest = count_alike router rows new (ap (drop 1) same) in
    ap (λ b. length (cond b (m ∷ filter p new) (filter p new))) (ap (λ n. nat_eq n router) first)
    ∙ elim (p l) as (λ b. length (cond b (m ∷ filter p new) (filter p new)) ≡ length (cond b (l ∷ filter p rows) (filter p rows))) [ true ↦ omega (arith, rest) | false ↦ rest ]

module _ (rows new : List Link) (same : RunAlike rows new) where
  pub as_many : length new ≡ length rows
  as_many = sym (length-map new interfaces_of) ∙ ap length same ∙ length-map rows interfaces_of

  -- at each index, the new row (a link) joins the same two interfaces as the old row
  alike_each : (i : ℕ) (d : Link) → i < length rows → HasSameEnds (slice_index_or rows i d) (slice_index_or new i d)
  alike_each i d h =
      let k : Key × Key = interfaces_of d in
      let one : interfaces_of (slice_index_or rows i d) ≡ interfaces_of (slice_index_or new i d) =
      sym (get_or-map interfaces_of rows i d k h) ∙ sym (ap (λ ks. slice_index_or ks i k) same) ∙ get_or-map interfaces_of new i d k (omega (arith, h, as_many)) in
      record { from = ap (λ p. p.0.0) one; local = ap (λ p. p.0.1) one; to = ap (λ p. p.1.0) one; remote = ap (λ p. p.1.1) one }

  read_map : {A : Type 0} (f : Key × Key → A) (ls : List Link) → map f (map interfaces_of ls) ≡ map (λ l. f (interfaces_of l)) ls
  read_map f [] = refl
  read_map f (l ∷ ls) = ap (λ xs. f (interfaces_of l) ∷ xs) (read_map f ls)

  column_alike : (f : Key × Key → ℕ) → map (λ l. f (interfaces_of l)) new ≡ map (λ l. f (interfaces_of l)) rows
  column_alike f = sym (read_map f new) ∙ ap (map f) same ∙ read_map f rows

  -- If `ends` is the column of ends of the old rows (links), `ends` is also the column of ends of
  -- the new rows. For each row, the column of ends has the index of the router at which the row
  -- ends.
  pub ends_alike : (routers ends : List ℕ) → IsEndColumn rows routers ends → IsEndColumn new routers ends
  ends_alike routers ends are = record {
    froms = λ i d h. let within : i < length rows = omega (arith, h, as_many) in subst (Contains routers) (alike_each i d within).from (are.froms i d within);
    ends = record { within = are.ends.within; each = are.ends.each ∙ sym (column_alike (λ p. p.1.0)) };
  }

  -- If `column` is the column of reverses of the old rows (links), `column` is also the column of
  -- reverses of the new rows. For each row, the column of reverses has the index of the row's
  -- reverse, or `NO_LINK`.
  pub reverses_alike : (column : List ℕ) → AreReversesBut no_key rows column → AreReversesBut no_key new column
  reverses_alike column are = column_of no_key new column (are.many ∙ sym as_many) (λ i d h.
      let n = slice_index_or column i 0 in
      let here : i < length rows = omega (arith, h, as_many) in
      let is = paired no_key rows column are i d here in
      record {
        within = λ some. omega (arith, is.within some, as_many);
        found = λ some. reverse_alike _ _ _ _ (alike_each i d here) (alike_each n d (is.within some)) (is.found some);
        kept = λ some. (λ bad. bad, λ bad. bad);
        none = λ z j inside back.
            let there : j < length rows = omega (arith, inside, as_many) in
            is.none z j there (reverse_alike _ _ _ _ (turned_about _ _ (alike_each i d here)) (turned_about _ _ (alike_each j d there)) back);
      })

  -- if an old row (a link) begins or ends at a router, some new row begins or ends at this router
  still_ends : (q : ℕ) → AnyEndsAt rows q → AnyEndsAt new q
  still_ends q (at, within, holds) =
      (at, omega (arith, within, as_many), λ d. elim (holds d) [ inl from ↦ inl (sym (alike_each at d within).from ∙ from) | inr to ↦ inr (sym (alike_each at d within).to ∙ to) ])

  pub routers_alike : (routers ends : List ℕ) → AreByKey rows → AreByKey new → routers ≡ router_list (database_of rows) → AreEndsOf rows routers ends → routers ≡ router_list (database_of new)
  routers_alike routers ends by_key still all are =
      router_list-column new routers ends (ends_alike routers ends (column_table rows routers ends by_key all are))
      (λ i d h. still_ends _ (listed_end rows routers _ by_key all (Contains-get_or routers i d h))) still (subst AreRising (sym all) (rising-router_list (database_of rows)))

  -- if `P` holds of all local addresses in a range of the old rows (links), `P` holds of all local
  -- addresses in the same range of the new rows
  locals_alike : (first end : ℕ) → first ≤ end → end ≤ length rows → (P : ℕ → Type 0) → All (λ l. P l.local) (between first end rows) → All (λ l. P l.local) (between first end new)
  locals_alike first end order bound P all k d h =
      let within : first + k < end = omega (arith, h, length-between new first end (omega (arith, order, bound, as_many)), order) in
      let here : (slice_index_or (between first end rows) k d).local ≡ (slice_index_or (between first end new) k d).local =
      ap (λ (l : Link). l.local) (get_or-between rows first end k d within) ∙ (alike_each (first + k) d (omega (arith, within, bound))).local ∙ sym (ap (λ (l : Link). l.local) (get_or-between new first end k d within)) in
      subst P here (all k d (omega (arith, within, length-between rows first end bound, order)))

  -- A router's span in the old rows (links) is also its span in the new rows. A router's span is
  -- the range of the rows that begin at it, with bounds of their local addresses.
  span_alike : (router : ℕ) (span : Span) → IsSpanOf rows router span → IsSpanOf new router span
  span_alike router span is =
      let p : Link → Bool = λ l. nat_eq l.from router in
      let first = span.first in
      let end = span.end in
      let froms = column_alike (λ k. k.0.0) in
      let inside : All (λ l. p l ≡ true) (between first end rows) = subst (All (λ l. p l ≡ true)) (sym is.part) (filter_passes p rows) in
      let parts : length (filter p (take first rows)) + (length (between first end rows) + length (filter p (drop end rows))) ≡ length (between first end rows) =
      sym (ap length (ap (filter p) (split_between rows first end is.order)
      ∙ filter-append p (take first rows) (between first end rows ++ drop end rows)
      ∙ ap (λ ls. filter p (take first rows) ++ ls) (filter-append p (between first end rows) (drop end rows) ∙ ap (λ ls. ls ++ filter p (drop end rows)) (all_kept p (between first end rows) inside)))
      ∙ length-append (filter p (take first rows)) (between first end rows ++ filter p (drop end rows))
      ∙ ap (λ n. length (filter p (take first rows)) + n) (length-append (between first end rows) (filter p (drop end rows)))) ∙ ap length (sym is.part) in
      let before : filter p (take first new) ≡ [] = nil_from_length (filter p (take first new)) (count_alike router (take first rows) (take first new) (sym (take-map _ first new) ∙ ap (take first) froms ∙ take-map _ first rows) ∙ omega (arith, parts)) in
      let behind : filter p (drop end new) ≡ [] = nil_from_length (filter p (drop end new)) (count_alike router (drop end rows) (drop end new) (sym (drop-map _ end new) ∙ ap (drop end) froms ∙ drop-map _ end rows) ∙ omega (arith, parts)) in
      let still : All (λ l. p l ≡ true) (between first end new) = λ k d h.
      let within : first + k < end = omega (arith, h, length-between new first end (omega (arith, is.order, is.bound, as_many)), is.order) in
      ap p (get_or-between new first end k d within)
      ∙ ap (λ n. nat_eq n router) (sym (alike_each (first + k) d (omega (arith, within, is.bound))).from)
      ∙ sym (ap p (get_or-between rows first end k d within))
      ∙ inside k d (omega (arith, within, length-between rows first end (omega (arith, is.order, is.bound)), is.order)) in
      record {
        order = is.order;
        bound = omega (arith, is.bound, as_many);
        part = sym (ap (filter p) (split_between new first end is.order)
            ∙ filter-append p (take first new) (between first end new ++ drop end new)
            ∙ ap (λ ls. ls ++ filter p (between first end new ++ drop end new)) before
            ∙ filter-append p (between first end new) (drop end new)
            ∙ ap (λ ls. filter p (between first end new) ++ ls) behind
            ∙ append-nil (filter p (between first end new))
            ∙ all_kept p (between first end new) still);
        lowest = locals_alike first end is.order is.bound (λ n. span.lowest ≤ n) is.lowest;
        highest = locals_alike first end is.order is.bound (λ n. n ≤ span.highest) is.highest;
      }

  pub spans_alike : (routers : List ℕ) (spans : List Span) → AreSpansOf rows routers spans → AreSpansOf new routers spans
  spans_alike routers spans are = record { many = are.many; each = λ at d h. span_alike _ _ (are.each at d h) }
