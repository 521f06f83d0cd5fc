use Rattle.std.proofs.Common.{subst}
use Rattle.cspf_serve.specs.ClientSeats.{AreSeats}
use Rattle.cspf_serve.proofs.serving.served_run.open_seats.Goals as goal

pub returns-in-Ok-seat_all-clause-seats : goal.returns-in-Ok-seat_all-clause-seats
returns-in-Ok-seat_all-clause-seats g c =
    subst (λ n. AreSeats c.in-Ok.publisher.source n c.in-Ok-seat_all.seats) c.in-Ok.ensures.count (c.in-Ok-seat_all.ensures.seats c.in-Ok.publisher.source c.in-Ok.ensures.source)
