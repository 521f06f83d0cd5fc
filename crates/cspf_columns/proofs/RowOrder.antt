-- Lemmas on rows (links) in order of their keys, and on the database that they make.
use Rattle.std.proofs.Common.{◌≡◌, ◌≢◌, ℕ, All, ◌<◌, ◌≤◌, ◌⊎◌, inl, inr, nat_lt, Bool, true, false, T, List, [], ◌∷◌, filter, length, map, get_or, slice_set, Result, IfOk, IfErr, refl, sym, ap, subst, ◌∙◌, arith, rules}
use Rattle.std.specs.Ordering.{eq_by_cmp, is_eq}
use Rattle.std.specs.declared.cmp.Ordering.TheVariants.{Less, Greater}
use Rattle.std.specs.List.{HoldsAt, insert, remove as without}
use Rattle.std.specs.List.Sorted.{IsNonDecreasingBy, IsBinarySearchResult, IsPartitionPoint}
use Rattle.std.specs.FinSet as set
use Rattle.std.specs.FinMap.{FinMap, from_entries, is_sorted, entries, entries-insert, entries_sorted, put}
use Rattle.std.proofs.lemmas.Bool.{cases_lt}
use Rattle.std.proofs.lemmas.Bool.Decides.{nat_tests}
use Rattle.std.proofs.lemmas.List.{length-map, get_or-map}
use Rattle.std.proofs.lemmas.Map.Keys.{apart_from_distinct}
use Rattle.cspf_model.specs.declared.link.Link.{Link}
use Rattle.cspf_model.specs.declared.batch.Change.TheVariants.{Put}
use Rattle.cspf_model.specs.Database.{Database, Key, key_of, key_cmp, HaveOwnKeys}
use Rattle.cspf_columns.specs.Index.{links_of}
use Rattle.cspf_model.specs.Lemmas.LinkChanges.{relinked}
use Rattle.cspf_model.specs.Lemmas.LinkRows.{entry_of, database_of, AreByKey}
use Rattle.cspf_model.proofs.Databases.Keys.{key_itself, keys_total}
use Rattle.cspf_columns.proofs.SortedEntries.{test_from_true, true_from_test, put-gap, put-hit, sorted_without, sorted_filter, rises, searchable, distinct, gap_from, entries-from_entries, from_entries-entries}

-- if rows (links) are in order of their keys, no two of them have the same key
pub own_keys : (rows : List Link) → AreByKey rows → HaveOwnKeys rows
own_keys rows by_key = distinct keys_total entry_of rows (test_from_true _ by_key)

-- if rows (links) are in order of their keys, two rows at different indexes have different keys
apart_below : (rows : List Link) → AreByKey rows → (i j : ℕ) (d e : Link) → i < j → j < length rows → key_of (get_or rows i d) ≡ key_of (get_or rows j e) → ⊥
apart_below rows by_key i j d e less within same =
    let k : Key = key_of d in
    let apart = apart_from_distinct (eq_by_cmp key_cmp) (map key_of rows) i j k (own_keys rows by_key) less (omega (arith, within, length-map rows key_of)) in
    let here : get_or (map key_of rows) i k ≡ key_of (get_or rows i d) = get_or-map key_of rows i d k (omega arith) in
    let there : get_or (map key_of rows) j k ≡ key_of (get_or rows j e) = get_or-map key_of rows j e k within in
    let tie : eq_by_cmp key_cmp (key_of (get_or rows j e)) (key_of (get_or rows j e)) ≡ false =
    subst (λ q. eq_by_cmp key_cmp q (key_of (get_or rows j e)) ≡ false) same (subst (λ q. eq_by_cmp key_cmp (key_of (get_or rows i d)) q ≡ false) there (subst (λ q. eq_by_cmp key_cmp q (get_or (map key_of rows) j k) ≡ false) here apart)) in
    let no : true ≡ false = sym (key_itself (key_of (get_or rows j e))) ∙ tie in cc

pub one_index : (rows : List Link) → AreByKey rows → (i j : ℕ) (d e : Link) → i < length rows → j < length rows → key_of (get_or rows i d) ≡ key_of (get_or rows j e) → i ≡ j
one_index rows h1 i j d e within also same = search (rules, apart_below, cases_lt)

-- if rows (links) are in order of their keys, the rows with their keys are the entries of the
-- database that the rows make
pub entries-database_of : (rows : List Link) → AreByKey rows → entries (database_of rows).links ≡ map entry_of rows
entries-database_of rows by_key = entries-from_entries keys_total (map entry_of rows) (test_from_true _ by_key)

-- if rows (links) are turned into entries, the links of the entries are the rows again
links_with_keys : (rows : List Link) → map (λ (e : Key × Link). e.1) (map entry_of rows) ≡ rows
links_with_keys [] = refl
links_with_keys (l ∷ rows) = ap (λ ls. l ∷ ls) (links_with_keys rows)

-- if rows (links) are in order of their keys, the database that they make has exactly these rows as
-- its links, in this order
pub links_of-database_of : (rows : List Link) → AreByKey rows → links_of (database_of rows) ≡ rows
links_of-database_of rows by_key = ap (map (λ (e : Key × Link). e.1)) (entries-database_of rows by_key) ∙ links_with_keys rows

-- if the rows (links) with their keys are the entries of a map, the rows are in order of their keys
pub by_key-entries : (links : FinMap key_cmp Link) (rows : List Link) → entries links ≡ map entry_of rows → AreByKey rows
by_key-entries links rows e = true_from_test _ (subst (λ es. T (is_sorted key_cmp es)) e (entries_sorted links))

pub database_of-entries : (d : Database) (rows : List Link) → set.empty ≡ d.marks → entries d.links ≡ map entry_of rows → database_of rows ≡ d
database_of-entries d rows none e =
    let links : from_entries (map entry_of rows) ≡ d.links = from_entries-entries keys_total d.links (map entry_of rows) e in
    λ i. record { links = links i; marks = none i }

-- if a link replaces the row (a link) with its key, the entries of the new rows are those of the
-- changed database
pub entries-hit : (rows : List Link) (at : ℕ) (l : Link) → AreByKey rows → at < length rows → HoldsAt (λ m. key_of m ≡ key_of l) rows at
    → entries (relinked (database_of rows) (Put l)).links ≡ map entry_of (slice_set rows at l)
entries-hit rows at l by_key h has =
    entries-insert keys_total (database_of rows).links (key_of l) l ∙ ap (put key_cmp (key_of l) l) (entries-database_of rows by_key) ∙ put-hit keys_total entry_of rows at l l (test_from_true _ by_key) h (has l)

-- if a link is inserted between the rows (links) with lower and with higher keys, the entries of
-- the new rows are those of the changed database
pub entries-gap : (rows : List Link) (at : ℕ) (l : Link) → AreByKey rows → at ≤ length rows
    → IsPartitionPoint (λ m. key_cmp (key_of m) (key_of l) ≡ Less) (λ m. key_cmp (key_of m) (key_of l) ≡ Greater) rows at
    → entries (relinked (database_of rows) (Put l)).links ≡ map entry_of (insert rows at l)
entries-gap rows at l by_key h gap =
    entries-insert keys_total (database_of rows).links (key_of l) l ∙ ap (put key_cmp (key_of l) l) (entries-database_of rows by_key) ∙ put-gap keys_total entry_of rows at l h gap.0 gap.1

-- if rows (links) are in order of their keys, they are still in order after one row is removed
pub by_key-without : (rows : List Link) (at : ℕ) → AreByKey rows → AreByKey (without rows at)
by_key-without rows at by_key = true_from_test _ (sorted_without keys_total entry_of rows at (test_from_true _ by_key))

-- if rows (links) are in order of their keys, the rows that a filter keeps are in order
pub by_key-filter : (p : Link → Bool) (rows : List Link) → AreByKey rows → AreByKey (filter p rows)
by_key-filter p rows by_key = true_from_test _ (sorted_filter keys_total entry_of p rows (test_from_true _ by_key))

-- if a search for a key finds a row (a link), the row has this key
pub found_key : (rows : List Link) (k : Key) (r : Result ℕ ℕ) → IsBinarySearchResult (λ l. key_cmp (key_of l) k) rows r → IfOk r (HoldsAt (λ l. key_of l ≡ k) rows)
found_key rows k r found = search rules

-- if a search for a key finds no row (a link), it returns the index at which such a row would be
-- inserted
pub key_gap : (rows : List Link) (k : Key) (r : Result ℕ ℕ) → AreByKey rows → IsBinarySearchResult (λ l. key_cmp (key_of l) k) rows r
    → IfErr r (IsPartitionPoint (λ l. key_cmp (key_of l) k ≡ Less) (λ l. key_cmp (key_of l) k ≡ Greater) rows)
key_gap rows k r by_key found = gap_from (λ l. key_cmp (key_of l) k) rows r found (searchable keys_total entry_of rows k (test_from_true _ by_key))

-- if the key `j` is lower than the key `k`, the router of `j` isn't above the router of `k`
from_le : (j k : Key) → key_cmp j k ≡ Less → j.0 ≤ k.0
from_le j k is = search rules

-- if rows (links) are in order of their keys, the routers at which they begin are in non-decreasing
-- order
pub from_rises : (rows : List Link) → AreByKey rows → IsNonDecreasingBy (λ l. l.from) rows
from_rises rows by_key i j d le h =
    elim (i_or i j le) [
      | inl low ↦ from_le (key_of (get_or rows i d)) (key_of (get_or rows j d)) (rises keys_total entry_of rows (test_from_true _ by_key) i j d low h)
      | inr same ↦ subst (λ k. (get_or rows i d).from ≤ (get_or rows k d).from) same (omega arith)
    ]
  where
    i_or : (i j : ℕ) → i ≤ j → (i < j) ⊎ (i ≡ j)
    i_or i j le = elim (nat_lt i j) as (λ b. nat_lt i j ≡ b → (i < j) ⊎ (i ≡ j)) [ true ↦ λ e. inl (grind (arith, nat_tests)) | false ↦ λ e. inr (grind (arith, nat_tests)) ] refl

-- if two keys don't compare as equal, they are different
pub untied : (j k : Key) → eq_by_cmp key_cmp j k ≡ false → j ≢ k
untied j k apart = search rules

-- if a search for a key finds no row (a link), no row has the key
pub unmet_at_gap : (rows : List Link) (k : Key) (at : ℕ) → IsPartitionPoint (λ l. key_cmp (key_of l) k ≡ Less) (λ l. key_cmp (key_of l) k ≡ Greater) rows at → All (λ l. key_of l ≢ k) rows
unmet_at_gap rows k at gap i d h = elim (cases_lt i at) [ inl below ↦ untied _ k (ap is_eq (gap.0 i d (omega arith) below)) | inr from ↦ untied _ k (ap is_eq (gap.1 i d from h)) ]
