-- How the column of reverses is related to the links of the database. For each row, the column of
-- reverses has the index of the row's reverse, or `NO_LINK`.
use Rattle.std.proofs.Common.{◌≡◌, ◌≢◌, ℕ, zero, suc, Bool, cond, All, filter, slice_index, ◌+◌, ◌<◌, ◌≤◌, ◌⊎◌, ◌↔◌, true, false, not, eqb, IsTrue, List, [], ◌∷◌, ◌++◌, length, slice_index_or, refl, sym, ap, subst, ◌∙◌, arith, rules}
use Rattle.std.specs.List.{HoldsAt, between}
use Rattle.std.proofs.lemmas.Bool.{cases_lt, eqb-true, eqb-false, eq-eqb}
use Rattle.std.proofs.lemmas.List.{get_or_append_left, get_or_at, get_or_default, get_or-map}
use Rattle.std.proofs.lemmas.List.Edits.{length-between, get_or-between}
use Rattle.cspf_model.specs.declared.link.Link.{Link}
use Rattle.cspf_columns.specs.declared.spans.Span.{Span}
use Rattle.cspf_columns.specs.declared.limits.TheConstants.{NO_LINK}
use Rattle.cspf_model.specs.Database.{Database, Key, key_of, IsLinkOf, IsReverse, HasReverse}
use Rattle.cspf_columns.specs.Index.{links_of, links_from_index, router_list, IsReverseAt}
use Rattle.cspf_model.specs.Lemmas.LinkRows.{marked_database, AreByKey}
use Rattle.cspf_columns.specs.Rows.{AreColumns, AreEndsOf, AreSpansAtEnds, AreSpansOf, IsSpanOf}
use Rattle.cspf_columns.specs.declared.columns.Columns.{Columns}
use Rattle.cspf_columns.specs.Reverses.{IsIndexOfReverse, AreReversesBut, no_key}
use Rattle.cspf_model.proofs.Databases.LinksOfRows.{rows_listed}
use Rattle.cspf_columns.proofs.EndColumn.{length-ends}
use Rattle.cspf_columns.proofs.RouterLists.{span_at, span_within}
use Rattle.cspf_columns.proofs.RowOrder.{one_index, own_keys, links_of-database_of}

-- a disjunction of two falsehoods is false
pub neither : ⊥ ⊎ ⊥ → ⊥
neither h1 = search rules

-- the index of a link's reverse among the rows (links) is also the index of this reverse among the
-- links of the database
pub index_told : (d : Database) (rows : List Link) (marks : List ℕ) → marked_database rows marks ≡ d → AreByKey rows → (l : Link) (n : ℕ) → IsIndexOfReverse no_key rows l n → IsReverseAt d l n
index_told d rows marks makes by_key l n is =
    let listed : rows ≡ links_of d = sym (links_of-database_of rows by_key) ∙ ap links_of makes in
    record {
      within = λ some. subst (λ ls. n < length ls) listed (is.within some);
      found = λ some. subst (λ ls. IsReverse l (slice_index_or ls n l)) listed (is.found some);
      none = λ none has.
          let at = (rows_listed rows (own_keys rows by_key)).whole has.0 (subst (λ e. IsLinkOf e has.0) (sym makes) has.1) in
          let here : slice_index_or rows at.0 l ≡ has.0 = get_or_default rows at.0 l has.0 at.1 ∙ at.2 in
          neither (is.none none at.0 at.1 (subst (IsReverse l) (sym here) has.2));
    }

-- If the column of reverses has an index for a link, the database has a reverse of the link. If the
-- column has `NO_LINK`, the database has no reverse of the link.
pub tells_reverse : (d : Database) (rows : List Link) (marks : List ℕ) → marked_database rows marks ≡ d → AreByKey rows → (l : Link) (n : ℕ) → IsIndexOfReverse no_key rows l n
    → (n ≢ NO_LINK → HasReverse d l) × (n ≡ NO_LINK → ¬ HasReverse d l)
tells_reverse d rows marks makes by_key l n is = (
  λ some. (slice_index_or rows n l, subst (λ e. IsLinkOf e (slice_index_or rows n l)) makes ((rows_listed rows (own_keys rows by_key)).each n l (is.within some)), is.found some),
  (index_told d rows marks makes by_key l n is).none,
)

-- the comparison of `n` with `NO_LINK` says whether the database has a reverse of the link
pub reverse_test : (d : Database) (l : Link) (n : ℕ) → (n ≢ NO_LINK → HasReverse d l) × (n ≡ NO_LINK → ¬ HasReverse d l) → IsTrue (not (eqb n NO_LINK)) ↔ HasReverse d l
reverse_test d l n told =
    elim (eqb n NO_LINK) as (λ b. eqb n NO_LINK ≡ b → IsTrue (not b) ↔ HasReverse d l) [
      | true ↦ λ e. (λ on. absurd (cc), λ has. absurd (told.1 (eqb-true n NO_LINK e) has))
      | false ↦ λ e. (λ _. told.0 (eqb-false n NO_LINK e), λ _. refl)
    ] refl

-- the slice of the column of reverses at the range of a router's links has, for each of these
-- links, the index of its reverse, or `NO_LINK`
reverses_beside : (d : Database) (rows : List Link) (marks : List ℕ) (column : List ℕ) (first end at : ℕ) → marked_database rows marks ≡ d → AreByKey rows → AreReversesBut no_key rows column
    → first ≤ end → end ≤ length rows → between first end rows ≡ links_from_index d at → (nth : ℕ) (l : Link) → nth < length (links_from_index d at)
    → IsReverseAt d (slice_index_or (links_from_index d at) nth l) (slice_index_or (between first end column) nth 0)
reverses_beside d rows marks column first end at makes h2 are order bound part nth l within = search (rules, get_or-between, index_told, length-between)

-- The slice of the column of reverses at the range of a router's links has one item for each of
-- these links. For each row, the column of reverses has the index of the row's reverse, or
-- `NO_LINK`.
as_many_beside : (d : Database) (rows : List Link) (column : List ℕ) (first end at : ℕ) → AreReversesBut no_key rows column
    → first ≤ end → end ≤ length rows → between first end rows ≡ links_from_index d at → length (between first end column) ≡ length (links_from_index d at)
as_many_beside d rows column first end at are order bound part = search (rules, length-between)

-- for each link that begins at a router, the slice of the column of reverses at the router's span
-- has the index of the link's reverse, or `NO_LINK`
pub reverses_at_span : (d : Database) (c : Columns) (marks : List ℕ) → AreColumns c → marked_database c.rows.items marks ≡ d → (at : ℕ) (span : Span) → at < length (router_list d) → span ≡ slice_index_or c.spans.items at span
    → (length (between span.first span.end c.reverses.items) ≡ length (links_from_index d at))
    × ((nth : ℕ) (l : Link) → nth < length (links_from_index d at) → IsReverseAt d (slice_index_or (links_from_index d at) nth l) (slice_index_or (between span.first span.end c.reverses.items) nth 0))
reverses_at_span d c marks is makes at span h read =
    let rows = c.rows.items in
    let by_key = is.parts.by_key in
    let all = is.parts.all in
    let column = is.reverses in
    let part = span_at d rows marks c.routers.items c.spans.items at span makes by_key all is.spans h read in
    let order = span_within d rows marks c.routers.items c.spans.items at span makes all is.spans h read in
    (as_many_beside d rows c.reverses.items span.first span.end at column order.0 order.1 part, reverses_beside d rows marks c.reverses.items span.first span.end at makes by_key column order.0 order.1 part)

-- A reverse of the link `l` has the key (`l.to`, `l.remote`). If the row (a link) with this key
-- isn't a reverse of `l`, then `l` has no reverse.
pub not_back : (rows : List Link) → AreByKey rows → (l : Link) (at : ℕ) (d : Link) → at < length rows → key_of (slice_index_or rows at d) ≡ (l.to, l.remote)
    → ¬ IsReverse l (slice_index_or rows at d) → IsIndexOfReverse no_key rows l NO_LINK
not_back rows h1 l at d within key apart = search (rules, get_or_default, one_index)

-- A reverse of the link `l` has the key (`l.to`, `l.remote`). If no row (a link) has this key, then
-- `l` has no reverse.
pub none_back : (rows : List Link) (l : Link) → All (λ r. key_of r ≢ (l.to, l.remote)) rows → IsIndexOfReverse no_key rows l NO_LINK
none_back rows l none = search rules

-- if `P` holds of the items that a filter keeps, `P` holds of each item that passes the filter's
-- test
kept_each : {A : Type 0} (p : A → Bool) (P : A → Type 0) (xs : List A) → All P (filter p xs) → (i : ℕ) (d : A) → i < length xs → p (slice_index_or xs i d) ≡ true → P (slice_index_or xs i d)
kept_each p P [] all i d h passes = absurd (omega arith)
kept_each p P (x ∷ xs) all zero d h passes = subst (λ b. All P (cond b (x ∷ filter p xs) (filter p xs))) passes all 0 d (omega arith)
kept_each p P (x ∷ xs) all (suc i) d h passes = kept_each p P xs (rest (p x) all) i d (omega arith) passes
  where
    rest : (b : Bool) → All P (cond b (x ∷ filter p xs) (filter p xs)) → All P (filter p xs)
    rest true both = λ k e within. both (suc k) e (omega arith)
    rest false all = all

-- Consider the rows (links) that begin at the router where the link `l` ends. If none of them has
-- the key (`l.to`, `l.remote`), which a reverse of `l` has, then `l` has no reverse.
pub none_back_within : (rows : List Link) (l : Link) (span : Span) → IsSpanOf rows l.to span → All (λ r. key_of r ≢ (l.to, l.remote)) (between span.first span.end rows) → IsIndexOfReverse no_key rows l NO_LINK
none_back_within rows l span is none =
    none_back rows l (λ i d h key. kept_each (λ r. eqb r.from l.to) (λ r. key_of r ≢ (l.to, l.remote)) rows (subst (All (λ r. key_of r ≢ (l.to, l.remote))) is.part none) i d h
    (eq-eqb _ _ (λ t. (key t).0)) key)

-- if the row (a link) at the index `i` of a range has the key `k`, the row at the index `first + i`
-- of all rows has the key `k`
pub key_within : (rows : List Link) (k : Key) (first end i : ℕ) → end ≤ length rows → i < length (between first end rows) → HoldsAt (λ r. key_of r ≡ k) (between first end rows) i → HoldsAt (λ r. key_of r ≡ k) rows (first + i)
key_within rows k first end i bound h has = search (rules, get_or-between, length-between)

-- For each row (a link), `ends` has an index, and at this index `spans` has the span of the router
-- at which the row ends. A router's span is the range of the rows that begin at it, with bounds of
-- their local addresses.
pub spans_at_ends : (rows : List Link) (routers ends : List ℕ) (spans : List Span) → AreEndsOf rows routers ends → AreSpansOf rows routers spans → AreSpansAtEnds rows ends spans
spans_at_ends rows routers ends spans are spanned at d h =
    let many = length-ends rows routers ends are in
    let end = slice_index_or ends at 0 in
    let inside : end < length routers = are.within at 0 (omega (arith, h, many)) in
    let to : Link → ℕ = λ r. r.to in
    let found : slice_index routers end ≡ to (slice_index_or rows at d) =
    sym (get_or-map (λ e. slice_index routers e) ends at 0 0 (omega (arith, h, many))) ∙ ap (λ ns. slice_index_or ns at 0) are.each ∙ get_or-map to rows at d 0 h in
    (omega (arith, inside, spanned.many), λ e. subst (λ r. IsSpanOf rows r (slice_index_or spans end e)) found (spanned.each end e inside))

-- Suppose that `column` has the right item for each of the first rows (links), and that `n` is the
-- right item for the next row. Then `column` with `n` appended has the right item for each of these
-- rows. The right item is the index of the row's reverse, or `NO_LINK`.
pub one_more : (rows : List Link) (column : List ℕ) (l : Link) (n : ℕ) → l ≡ slice_index_or rows (length column) l → length column < length rows
    → ((i : ℕ) (d : Link) → i < length column → IsIndexOfReverse no_key rows (slice_index_or rows i d) (slice_index_or column i 0)) → IsIndexOfReverse no_key rows l n
    → (i : ℕ) (d : Link) → i < length column + 1 → IsIndexOfReverse no_key rows (slice_index_or rows i d) (slice_index_or (column ++ n ∷ []) i 0)
one_more rows column l n read h each is i d inside = search (rules, cases_lt, get_or_append_left, get_or_at, get_or_default)
