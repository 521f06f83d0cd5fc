use Rattle.std.proofs.Common.{rules, arith, ℕ, ◌+◌, ap}
use Rattle.atomic_table.specs.Table.{Me}
use Rattle.cspf_jobs.specs.declared.seat_draws.SeatDraws.{SeatDraws}
use Rattle.cspf_jobs.specs.DrawnNumbers.{FreeShares}
use Rattle.cspf_jobs.proofs.DrawSteps.{splits, shares-one_less}
use Rattle.cspf_jobs.proofs.counter.Counter.split.Goals as goal

pub split_seat-seat-requires : goal.split_seat-seat-requires
split_seat-seat-requires c =
    let some = c.requires.some in
    let shares = ap (λ (f : FreeShares). f.shares) c.first.view_is in
    let left = c.first.invariant.1 in
    let share = c.first.invariant.2 in
    let less = shares-one_less (c.first.inside.requests + 1) c.first.inside.shares (omega arith) in
    (search rules, search rules, splits _ _ _ (omega arith))

pub invariant_of-first : goal.invariant_of-first
invariant_of-first c =
    let some = c.requires.some in
    let shares = ap (λ (f : FreeShares). f.shares) c.first.view_is in
    let left = c.first.invariant.1 in
    let share = c.first.invariant.2 in
    let less = shares-one_less (c.first.inside.requests + 1) c.first.inside.shares (omega arith) in
    (search rules, (let after = ap (λ (m : Me ℕ SeatDraws). m.0.left) c.split_seat-seat.ensures.2 in omega arith), search rules, search rules)
