-- What counters, drawers and seats are in contracts. A worker draws numbers from a counter with a
-- drawer. A seat is a record of draws. Drawers get their draws from the counter's first seat, and
-- the last seat has the numbers that all drawers have drawn.
use Rattle.std.specs.Prelude.{ℕ, List}
use Rattle.atomic_table.specs.Seated.{TableId}

-- the identity of a counter, and the number of requests for which it is made
pub record CounterId : Type 0 where
  pub table : TableId
  pub requests : ℕ

-- A drawer, with which one worker draws: the numbers that it has drawn, in the order of the draws,
-- how often it may still draw, and its counter.
pub record DrawnNumbers : Type 0 where
  pub drawn : List ℕ
  pub left : ℕ
  pub counter : CounterId

-- the first seat (a record of draws) of a counter: the number of further workers for which it has
-- draws, and the counter
pub record FreeShares : Type 0 where
  pub shares : ℕ
  pub counter : CounterId

-- the numbers that all workers have drawn from a counter, and this counter
pub record AllDrawn : Type 0 where
  pub drawn : List ℕ
  pub counter : CounterId
