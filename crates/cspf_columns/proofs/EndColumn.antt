-- Lemmas on changing the column of ends together with the rows. A row is a link. For each row, the
-- column of ends has the index of the router at which the row ends.
use Rattle.std.proofs.Common.{◌≡◌, ℕ, suc, ◌-◌, ◌<◌, List, ◌∷◌, ◌++◌, All, Contains, length, map, take, drop, slice_index, slice_set, sym, ap, ◌∙◌, rules, arith}
use Rattle.std.proofs.lemmas.Grind.{common_steps}
use Rattle.std.specs.List.{between, insert, remove as without}
use Rattle.std.proofs.lemmas.List.{length-map, map-append, map-set, take-map, drop-map}
use Rattle.std.proofs.lemmas.List.Elements.{All-append, All-cons, All-take, All-drop, All-set}
use Rattle.cspf_model.specs.declared.link.Link.{Link}
use Rattle.cspf_columns.specs.Rows.{AreEndsOf, IsEndColumn}

-- The column of ends has one item for each row (a link). The item is the index of the router at
-- which the row ends.
pub length-ends : (rows : List Link) (routers ends : List ℕ) → AreEndsOf rows routers ends → length ends ≡ length rows
length-ends rows routers ends are = search (rules, length-map)

-- applying `f` to a list after an insertion gives the same list as inserting `f x` into the mapped
-- list
map-insert : {A B : Type 0} (f : A → B) (xs : List A) (i : ℕ) (x : A) → map f (insert xs i x) ≡ insert (map f xs) i (f x)
map-insert f xs i x = search (rules, drop-map, map-append, take-map)

-- applying `f` to a list after a removal gives the same list as removing the item at this index
-- from the mapped list
map-without : {A B : Type 0} (f : A → B) (xs : List A) (i : ℕ) → map f (without xs i) ≡ without (map f xs) i
map-without f xs i = search (rules, drop-map, map-append, take-map)

-- if `P` holds of all items of a list and of the item `x`, `P` holds of all items of the list after
-- `x` is inserted
all_insert : {A : Type 0} (P : A → Type 0) (xs : List A) (i : ℕ) (x : A) → P x → All P xs → All P (insert xs i x)
all_insert P xs i x p all = All-append P (take i xs) (x ∷ drop i xs) (All-take P i xs all) (All-cons P x (drop i xs) p (All-drop P i xs all))

-- if `P` holds of all items of a list, `P` holds of all items that are left after one item is
-- removed
all_without : {A : Type 0} (P : A → Type 0) (xs : List A) (i : ℕ) → All P xs → All P (without xs i)
all_without P xs i all = All-append P (take i xs) (drop (suc i) xs) (All-take P i xs all) (All-drop P (suc i) xs all)

-- Lemmas on rows (links) and their column of ends. For each row, the column of ends has the index
-- of the router at which the row ends.
module _ (rows : List Link) (routers ends : List ℕ) (are : IsEndColumn rows routers ends) where
  -- lemmas on replacing a row (a link) by the link `l`, and on inserting `l` as a row. `end` is the
  -- index of the router at which `l` ends.
  module _ (l : Link) (end : ℕ) (from : Contains routers l.from) (within : end < length routers) (found : slice_index routers end ≡ l.to) where
    -- Suppose that `l` replaces the row (a link) at `at`, and that `end` replaces the item at `at`
    -- in the column of ends. The result is the column of ends of the new rows. For each row, the
    -- column of ends has the index of the router at which the row ends.
    pub put_over : (at : ℕ) → IsEndColumn (slice_set rows at l) routers (slice_set ends at end)
    put_over at = record {
      froms = All-set (λ (m : Link). Contains routers m.from) rows at l from are.froms;
      ends = record {
        within = All-set (λ e. e < length routers) ends at end within are.ends.within;
        each =
            map-set (λ e. slice_index routers e) ends at end ∙ (λ t. slice_set (are.ends.each t) at (found t)) ∙ sym (map-set (λ (m : Link). m.to) rows at l);
      };
    }

    -- Suppose that `l` is inserted into the rows (links) at `at`, and that `end` is inserted into
    -- the column of ends at `at`. The result is the column of ends of the new rows. For each row,
    -- the column of ends has the index of the router at which the row ends.
    pub put_between : (at : ℕ) → IsEndColumn (insert rows at l) routers (insert ends at end)
    put_between at = record {
      froms = all_insert (λ (m : Link). Contains routers m.from) rows at l from are.froms;
      ends = record {
        within = all_insert (λ e. e < length routers) ends at end within are.ends.within;
        each =
            map-insert (λ e. slice_index routers e) ends at end ∙ (λ t. insert (are.ends.each t) at (found t)) ∙ sym (map-insert (λ (m : Link). m.to) rows at l);
      };
    }

  -- Suppose that the row (a link) at `at` is removed, and that the item at `at` is removed from the
  -- column of ends. The result is the column of ends of the new rows. For each row, the column of
  -- ends has the index of the router at which the row ends.
  pub taken_out : (at : ℕ) → IsEndColumn (without rows at) routers (without ends at)
  taken_out at = record {
    froms = all_without (λ (m : Link). Contains routers m.from) rows at are.froms;
    ends = record {
      within = all_without (λ e. e < length routers) ends at are.ends.within;
      each =
          map-without (λ e. slice_index routers e) ends at ∙ ap (λ xs. without xs at) are.ends.each ∙ sym (map-without (λ (m : Link). m.to) rows at);
    };
  }

-- If two lists of rows (links) are concatenated, the concatenation of their columns of ends is the
-- column of ends of all rows. For each row, the column of ends has the index of the router at which
-- the row ends.
pub ends_joined : (rows more : List Link) (routers ends more_ends : List ℕ) → AreEndsOf rows routers ends → AreEndsOf more routers more_ends → AreEndsOf (rows ++ more) routers (ends ++ more_ends)
ends_joined rows more routers ends more_ends are also = grind (arith, common_steps, All-append, map-append)

-- Suppose that the first `at` rows (links) and the first `at` items of the column of ends are
-- dropped. The remaining items are the column of ends of the remaining rows. For each row, the
-- column of ends has the index of the router at which the row ends.
pub ends_behind : (rows : List Link) (routers ends : List ℕ) (at : ℕ) → AreEndsOf rows routers ends → AreEndsOf (drop at rows) routers (drop at ends)
ends_behind rows routers ends at are = record {
  within = All-drop (λ e. e < length routers) at ends are.within;
  each = sym (drop-map (λ e. slice_index routers e) at ends) ∙ ap (drop at) are.each ∙ drop-map (λ (l : Link). l.to) at rows;
}

-- A slice of the column of ends is the column of ends of the rows (links) in the same range. For
-- each row, the column of ends has the index of the router at which the row ends.
pub ends_between : (rows : List Link) (routers ends : List ℕ) (at next : ℕ) → AreEndsOf rows routers ends → AreEndsOf (between at next rows) routers (between at next ends)
ends_between rows routers ends at next are =
    let behind = ends_behind rows routers ends at are in
    record {
      within = All-take (λ e. e < length routers) (next - at) (drop at ends) behind.within;
      each =
          sym (take-map (λ e. slice_index routers e) (next - at) (drop at ends)) ∙ ap (take (next - at)) behind.each ∙ take-map (λ (l : Link). l.to) (next - at) (drop at rows);
    }
