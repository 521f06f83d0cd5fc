-- The seats of the clients of a run, as contracts see them.
use Rattle.std.specs.Prelude.{◌≡◌, ℕ, suc, ⊤, List, [], ◌∷◌, All, length}
use Rattle.logbook.specs.Pages.{Book}
use Rattle.cspf_publish.specs.AskerStates.{AskerState}

-- a client's seat, as contracts see it: the asker that answers the client's requests, and the number
-- of the client
pub record SeatState : Type 0 where
  pub asker : AskerState
  pub number : ℕ

-- A seat has all that the thread of one client needs. The asker of this seat reads the journal with
-- the identity `source`.
abbrev pub IsSeat : Book → SeatState → Type 0
IsSeat source seat = seat.asker.source ≡ source

-- the seats of the clients are numbered from `n` on, in the order of the list
abbrev pub AreNumberedSeats : ℕ → List SeatState → Type 0
AreNumberedSeats n [] = ⊤
AreNumberedSeats n (seat ∷ seats) = (seat.number ≡ n) × AreNumberedSeats (suc n) seats

-- There are `count` seats, one for each client. They have askers of one publisher, whose journal has
-- the identity `source`.
pub record AreSeats (source : Book) (count : ℕ) (seats : List SeatState) : Type 0 where
  pub each : All (IsSeat source) seats
  pub many : length seats ≡ count
