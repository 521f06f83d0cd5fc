-- Private: the column of reverses. For each row (a link), the column has the index of the row's
-- reverse.
use Rattle.std.specs.Prelude.{◌≡◌, ◌≢◌, ◌<◌, ◌+◌, ◌-◌, ◌⊎◌, ℕ, cond, nat_eq, nat_le, List, length, slice_index_or}
use Rattle.cspf_model.specs.declared.link.Link.{Link}
use Rattle.cspf_columns.specs.declared.limits.TheConstants.{NO_LINK}
use Rattle.cspf_model.specs.Database.{Key, key_of, IsReverse}

-- `n` is the index of the row (a link) that is the reverse of the link `l`, or `NO_LINK` if there
-- is no such row. Links whose keys satisfy `left_out` are ignored: such a link counts as having no
-- reverse, and as being no link's reverse.
pub record IsIndexOfReverse (left_out : Key → Type 0) (rows : List Link) (l : Link) (n : ℕ) : Type 0 where
  pub within : n ≢ NO_LINK → n < length rows
  pub found : n ≢ NO_LINK → IsReverse l (slice_index_or rows n l)
  pub kept : n ≢ NO_LINK → (¬ left_out (key_of l)) × ¬ left_out (key_of (slice_index_or rows n l))
  pub none : n ≡ NO_LINK → (at : ℕ) → at < length rows → IsReverse l (slice_index_or rows at l)
      → left_out (key_of l) ⊎ left_out (key_of (slice_index_or rows at l))

-- For each row (a link), `column` has the index of the row's reverse, or `NO_LINK`. Rows whose keys
-- satisfy `left_out` are ignored: such a row counts as having no reverse, and as being no row's
-- reverse.
pub record AreReversesBut (left_out : Key → Type 0) (rows : List Link) (column : List ℕ) : Type 0 where
  pub many : length column ≡ length rows
  pub each : (at : ℕ) (d : Link) → at < length rows
      → IsIndexOfReverse left_out rows (slice_index_or rows at d) (slice_index_or column at 0)

-- the predicate on keys that holds of no key
abbrev pub no_key : Key → Type 0
no_key k = ⊥

-- the predicate on keys that holds of the key `key` alone
abbrev pub same_key : Key → Key → Type 0
same_key key k = k ≡ key

-- The new index of the row (a link) at the index `n`, after another row is inserted at `at`. If `n`
-- is at least `at`, the index grows by 1. `NO_LINK` stays `NO_LINK`.
abbrev pub index_behind : ℕ → ℕ → ℕ
index_behind at n = cond (nat_eq n NO_LINK) n (cond (nat_le at n) (n + 1) n)

-- The new index of the row (a link) at the index `n`, after another row is removed at `at`. If `n`
-- is at least `at`, the index falls by 1. `NO_LINK` stays `NO_LINK`.
abbrev pub index_before : ℕ → ℕ → ℕ
index_before at n = cond (nat_eq n NO_LINK) n (cond (nat_le at n) (n - 1) n)
