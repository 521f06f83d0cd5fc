-- The rule of draws, which is an invariant of all steps on a counter, and the effect of a draw.
use Rattle.std.specs.Prelude.{◌≡◌, ℕ, ◌+◌, ◌*◌, ◌<◌, ◌≤◌, length, slice_index, sum_by, All}
use Rattle.atomic_table.specs.Table.{State, Me, Step}
use Rattle.cspf_jobs.specs.declared.limits.TheConstants.{MOST_DRAWERS, MOST_REQUESTS}
use Rattle.cspf_jobs.specs.declared.seat_draws.SeatDraws.{SeatDraws}
use Rattle.cspf_jobs.specs.EachOnce.{times, once_below}
use Rattle.cspf_jobs.specs.SeatDraws.{with_number}

-- the counter's value, which is the number of draws so far
abbrev pub drawn_word : State ℕ SeatDraws → ℕ
drawn_word s = slice_index s.words 0

-- The rule of draws. Each worker has a seat, and the counter has a first one. A seat has a list of
-- drawn numbers, and the number of draws that are left. Each number below the counter's value is in
-- exactly one of these lists, and once in it. No list has any other number. The counter's value and
-- the draws that are left in all seats add up to the number of draws that all workers together may
-- make. So the value never overflows.
pub record HoldsBetweenDraws (requests : ℕ) (s : State ℕ SeatDraws) : Type 0 where
  pub one_word : length s.words ≡ 1
  pub few : requests ≤ MOST_REQUESTS
  pub each_once : (x : ℕ) → sum_by (λ v. times x v.drawn) s.views ≡ once_below (drawn_word s) x
  pub count : sum_by (λ v. length v.drawn) s.views ≡ drawn_word s
  pub draws : drawn_word s + sum_by (λ v. v.left) s.views ≡ MOST_DRAWERS * (requests + 1)

-- A draw appends the counter's value to the list of the worker's drawn numbers, where it is greater
-- than all numbers before it. The worker then has one draw fewer left.
pub record Draws (step : Step ℕ) (before : Me ℕ SeatDraws) (found : ℕ) (after : Me ℕ SeatDraws) : Type 0 where
  pub seat : after.0 ≡ with_number before.0 found
  pub above : All (λ x. x < found) before.0.drawn
  pub slots : after.1 ≡ before.1
