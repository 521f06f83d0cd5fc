-- Private: the state that an asker keeps between two requests. It is called the asker's seat.
use Rattle.std.specs.Prelude.{◌≡◌, IfSome}
use Rattle.left_right.specs.Sides.{view}
use Rattle.cspf_journal.specs.KnownBatches.{KnownBatches}
use Rattle.cspf_publish.specs.declared.asker_seat.AskerSeat.{AskerSeat}
use Rattle.cspf_publish.specs.declared.seat_view.SeatView.TheVariants.{Asker}

-- `seat` is the state that an asker (which answers requests) keeps between two requests. The view
-- of its reader is an asker's view: it has the batches of the replica that the reader entered last.
-- If the seat has trees of lower bounds, they are for a database of the same journal, and have the
-- same limit on their number as the seat.
pub record IsAskerSeat (seat : AskerSeat) : Type 0 where
  pub entered : KnownBatches
  pub is : view seat.reader.place ≡ Asker entered
  pub trees : IfSome seat.trees (λ old. entered.source ≡ old.source)
  pub most : IfSome seat.trees (λ old. old.most_trees ≡ seat.most_trees)
