use Rattle.std.proofs.Common.{◌≡◌, ◌++◌, All, length, sum_by}
use Rattle.std.specs.Vec.Iter.{into_iter_items}
use Rattle.logbook.specs.Pages.{Book}
use Rattle.cspf_serve.specs.ClientSeats.{IsSeat, AreNumberedSeats}
use Rattle.cspf_serve.proofs.serving.served_run.seat_all.Given as goal

abbrev pub invariant-loop-asker : goal.invariant-loop-asker
invariant-loop-asker g l = record {
  left : l.yielded ++ into_iter_items l.asker-iterator ≡ l.fn.askers.items;
  seats : (source : Book) → All (λ a. a.source ≡ source) l.fn.askers.items → All (IsSeat source) l.seats.items;
  numbers : AreNumberedSeats 1 l.seats.items;
  many : length l.seats.items ≡ length l.yielded;
  trees : sum_by (λ s. s.asker.most_trees) l.seats.items ≡ sum_by (λ a. a.most_trees) l.yielded;
}
