-- Private: the seat of a worker that draws, and how each kind of step changes it. In proofs, a seat
-- records the numbers that the worker has drawn, and how often it may still draw.
use Rattle.std.specs.Prelude.{◌≡◌, ℕ, ◌+◌, ◌*◌, ◌-◌, List, [], ◌∷◌, ◌++◌, length}
use Rattle.std.specs.List.Sorted.{IsStrictlyIncreasing}
use Rattle.cspf_jobs.specs.declared.limits.TheConstants.{MOST_DRAWERS}
use Rattle.cspf_jobs.specs.declared.seat_draws.SeatDraws.{SeatDraws}

abbrev pub seat_draws : List ℕ → ℕ → ℕ → SeatDraws
seat_draws drawn left share = record { drawn = drawn; left = left; share = share }

-- The first seat of a counter, before any step. It has the draws of all workers: each worker may
-- draw once more than there are requests.
abbrev pub all_draws : ℕ → SeatDraws
all_draws requests = seat_draws [] (MOST_DRAWERS * (requests + 1)) (requests + 1)

-- a worker's seat after the worker has drawn `number`; a seat records the drawn numbers, and how
-- often the worker may still draw
abbrev pub with_number : SeatDraws → ℕ → SeatDraws
with_number v number = seat_draws (v.drawn ++ number ∷ []) (v.left - 1) v.share

-- the seat `v` (a record of how many draws are left) after it has given one new worker its draws
abbrev pub one_share_less : SeatDraws → SeatDraws
one_share_less v = seat_draws v.drawn (v.left - v.share) v.share

-- The seat of a new worker, a record of its draws. It has no numbers yet, and the number of draws
-- that `v` gives to each worker.
abbrev pub one_share : SeatDraws → SeatDraws
one_share v = seat_draws [] v.share v.share

-- The seat `v` after the seat `w` is merged into it: it has the drawn numbers and the remaining
-- draws of both. A seat records the numbers that have been drawn, and how many draws are left.
abbrev pub both_seats : SeatDraws → SeatDraws → SeatDraws
both_seats v w = seat_draws (v.drawn ++ w.drawn) (v.left + w.left) v.share

-- a seat (a record of draws) after it is merged into another seat: it has no numbers and no draws
-- left
abbrev pub spent_seat : SeatDraws
spent_seat = seat_draws [] 0 0

-- The seat of a worker, a record of its draws. The draws that the worker has made and those that it
-- has left add up to one more than the number of requests. The worker's drawn numbers are strictly
-- increasing.
pub record IsDrawer (requests : ℕ) (v : SeatDraws) : Type 0 where
  pub all : length v.drawn + v.left ≡ requests + 1
  pub rising : IsStrictlyIncreasing v.drawn
