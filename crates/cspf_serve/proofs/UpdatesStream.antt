-- The rows of updates are answered as the specification says, given the state that the code stores.
use Rattle.std.proofs.Common.{◌≡◌, ℕ, suc, ◌+◌, Bool, List, length, Option, refl, arith, rules}
use Rattle.std.proofs.lemmas.Grind.{common_steps}
use Rattle.cspf_publish.specs.PublisherStates.{PublisherState}
use Rattle.cspf_stream.specs.RowAnswers.{AreAnswered, AreAllAnswered}
use Rattle.cspf_stream.specs.StreamStops.{StopsBetween, StopsInRow, IsRowStopped, HasStopped}
use Rattle.cspf_stream.specs.declared.error.StreamError.{StreamError}
use Rattle.cspf_stream.proofs.Running.{carried}
use Rattle.cspf_solve.specs.Script.{RunState, IsEndAnswered}
use Rattle.cspf_serve.specs.Updates.{UpdatesState, no_updates}
use Rattle.cspf_serve.specs.UpdatesStates.{KeptUpdates, KeepsUpdates, IsUpdateTaken, IsUpdateFailed}
use Rattle.cspf_serve.specs.ServedRun.{IsUpdateAnsweredAt, IsUpdateLostAt}

-- the answer to an `end` row doesn't change how many rows were read
rows_end : (s : RunState) (number count : ℕ) (line : List ℕ) (t : RunState) → IsEndAnswered s number count line t → t.rows ≡ s.rows
rows_end s number count line t h1 = search rules

abbrev Rows : Type 0
Rows = List (List (List ℕ))

module _ {J : Type 0} (contents : J → Option (List ℕ)) (first : PublisherState J) where
  -- before the row at this place the code keeps the specification's state `s`
  abbrev KeepsAt : ℕ → KeptUpdates J → UpdatesState → Type 0
  KeepsAt place k s = KeepsUpdates contents first k s × (place ≡ s.run.rows + 1)

  one_row : (place : ℕ) (k k' : KeptUpdates J) (s : UpdatesState) (fields : List (List ℕ)) (line : List ℕ) → KeepsAt place k s → IsUpdateTaken contents place k fields line k'
      → (t : UpdatesState) × KeepsAt (suc place) k' t × IsUpdateAnsweredAt place s fields line t
  one_row place k k' s fields line kept a = search rules

  led : (k k' : KeptUpdates J) (rows : Rows) (lines : List ℕ) → KeepsUpdates contents first k no_updates → AreAnswered (IsUpdateTaken contents) 1 k rows lines k'
      → (t : UpdatesState) × KeepsAt (1 + length rows) k' t × AreAnswered IsUpdateAnsweredAt 1 no_updates rows lines t
  led k k' rows lines kept a = carried (IsUpdateTaken contents) IsUpdateAnsweredAt KeepsAt one_row 1 k k' no_updates rows lines (kept, refl) a

  module _ (all left : Option Rows) (failed : Bool) (k k' : KeptUpdates J) (kept : KeepsUpdates contents first k no_updates) (old new : Option (List ℕ)) where
    pub carried_all : AreAllAnswered (IsUpdateTaken contents) all k k' old new
        → (t : UpdatesState) × KeepsUpdates contents first k' t × AreAllAnswered IsUpdateAnsweredAt all no_updates t old new
    carried_all a = search (rules, led)

    carried_between : StopsBetween (IsUpdateTaken contents) all k k' old new
        → (t : UpdatesState) × KeepsUpdates contents first k' t × StopsBetween IsUpdateAnsweredAt all no_updates t old new
    carried_between a = search (rules, led)

    carried_row : (why : StreamError) (place : ℕ) (fields : List (List ℕ)) (b : KeptUpdates J) (s : UpdatesState) (mid : Option (List ℕ)) → KeepsUpdates contents first b s → place ≡ s.run.rows + 1
        → IsRowStopped (IsUpdateTaken contents) (IsUpdateFailed contents) why place fields b k' mid new
        → (t : UpdatesState) × KeepsUpdates contents first k' t × IsRowStopped IsUpdateAnsweredAt IsUpdateLostAt why place fields s t mid new
    carried_row why place fields b s mid keeps at a = grind (arith, common_steps)

    carried_in_row : (why : StreamError) → StopsInRow (IsUpdateTaken contents) (IsUpdateFailed contents) why all left k k' old new
        → (t : UpdatesState) × KeepsUpdates contents first k' t × StopsInRow IsUpdateAnsweredAt IsUpdateLostAt why all left no_updates t old new
    carried_in_row why a = search (rules, carried_row, led)

    pub carried_stopped : (why : StreamError) → HasStopped (IsUpdateTaken contents) (IsUpdateFailed contents) why all left failed k k' old new
        → (t : UpdatesState) × KeepsUpdates contents first k' t × HasStopped IsUpdateAnsweredAt IsUpdateLostAt why all left failed no_updates t old new
    carried_stopped why a = search (rules, carried_between, carried_in_row, led)
