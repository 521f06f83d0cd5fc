-- How much one row of a stream adds to the counts of open changes, of answers and of refusals.
use Rattle.std.specs.Prelude.{◌+◌, ◌<◌, ◌≤◌, ◌^◌}
use Rattle.cspf_stream.specs.declared.rows.Rows.{Rows}

-- The counts of open changes, of answers and of refusals can each be incremented without reaching
-- 2^64.
pub record CanCountOneMore {S : Type 0} (rows : Rows S) : Type 0 where
  pub count : rows.changes.count + 1 < 2 ^ 64
  pub answers : rows.answers + 1 < 2 ^ 64
  pub refused : rows.refused + 1 < 2 ^ 64

-- From `old` to `new`, the counts of open changes, of answers and of refusals grow by at most 1
-- each.
pub record GrowsByOneAtMost {S : Type 0} (old new : Rows S) : Type 0 where
  pub count : new.changes.count ≤ old.changes.count + 1
  pub answers : new.answers ≤ old.answers + 1
  pub refused : new.refused ≤ old.refused + 1
