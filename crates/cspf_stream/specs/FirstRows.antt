-- How the first rows of a stream, up to a limit, are answered, and how many bytes are written.
use Rattle.std.specs.Prelude.{◌≡◌, ℕ, suc, ◌+◌, ◌<◌, ◌≤◌, ◌⊎◌, Bool, true, List, take, length, Option}
use Rattle.std.specs.Io.KnownBytes.{Appends}
use Rattle.std.specs.Io.KnownBytes as known
use Rattle.cspf_stream.specs.RowAnswers.{AnswersOf, AreAllAnswered}
use Rattle.cspf_stream.specs.StreamStops.{FailsOf, NeverFails, StopsBetween, StopsAtRow, HasMoreThan}
use Rattle.cspf_stream.specs.declared.error.StreamError.{StreamError}
use Rattle.cspf_stream.specs.declared.error.StreamError.TheVariants as error
use Rattle.cspf_stream.specs.declared.error.StreamStop.{StreamStop}
use Rattle.cspf_stream.specs.declared.error.StreamStop.TheVariants as stop

-- All rows of a stream are answered. There are at most `limit` rows, and their lines have `bytes`
-- bytes.
pub record AreFirstRowsAnswered {S : Type 0} (answers : AnswersOf S) (limit bytes : ℕ) (all : Option (List (List (List ℕ)))) (s t : S) (old new : Option (List ℕ)) : Type 0 where
  pub whole : AreAllAnswered answers all s t old new
  pub few : length whole.done ≤ limit
  pub size : length whole.lines ≡ bytes

-- How the writing of a row's line stops after `size` bytes of this line. If `flush` isn't set, no
-- flush can fail.
abbrev pub IsLineStoppedAfter : Bool → ℕ → StreamError → List ℕ → Option (List ℕ) → Option (List ℕ) → Type 0
IsLineStoppedAfter flush size error.Write line old new = (size < length line) × Appends old new (take size line)
IsLineStoppedAfter flush size error.Flush line old new = (flush ≡ true) × (size ≡ length line) × Appends old new line
IsLineStoppedAfter flush size other line old new = ⊥

-- How the answer to row `place` stops. `before` bytes were written before this row. When its answer
-- stopped, `after` bytes were written in all.
abbrev pub IsRowStoppedAfter : {S : Type 0} → AnswersOf S → FailsOf S → Bool → ℕ → ℕ → StreamError → ℕ → List (List ℕ) → S → S → Option (List ℕ) → Option (List ℕ) → Type 0
IsRowStoppedAfter answers fails flush before after error.Memory place fields s t old new =
    fails place s fields t × known.Keeps old new × (after ≡ before)
IsRowStoppedAfter answers fails flush before after error.Write place fields s t old new =
    (line : List ℕ) × (size : ℕ) × answers place s fields line t × (size < length line) × Appends old new (take size line) × (after ≡ before + size)
IsRowStoppedAfter answers fails flush before after error.Flush place fields s t old new =
    (line : List ℕ) × answers place s fields line t × (flush ≡ true) × Appends old new line × (after ≡ before + length line)
IsRowStoppedAfter answers fails flush before after other place fields s t old new = ⊥

-- The stream stops between two rows. At most `limit` rows are answered, and their lines have
-- `bytes` bytes.
pub record StopsAfterRows {S : Type 0} (answers : AnswersOf S) (limit bytes : ℕ) (all : Option (List (List (List ℕ)))) (s t : S) (old new : Option (List ℕ)) : Type 0 where
  pub between : StopsBetween answers all s t old new
  pub few : length between.done ≤ limit
  pub size : length between.lines ≡ bytes

-- The stream stops while a row is answered. Fewer than `limit` rows were answered before this row.
abbrev pub StopsInRowAfter : {S : Type 0} → AnswersOf S → FailsOf S → ℕ → Bool → ℕ → StreamError → Option (List (List (List ℕ))) → Option (List (List (List ℕ))) → S → S → Option (List ℕ) → Option (List ℕ) → Type 0
StopsInRowAfter answers fails limit flush bytes error all left s t old new =
    StopsAtRow answers (λ done lines fields before mid. (length done < limit)
    × IsRowStoppedAfter answers fails flush (length lines) bytes error (suc (length done)) fields before t mid new) all left s old

-- Exactly `limit` rows are answered, their lines have `bytes` bytes, and there is one more row.
pub record HasMoreRows {S : Type 0} (answers : AnswersOf S) (limit bytes : ℕ) (all : Option (List (List (List ℕ)))) (s t : S) (old new : Option (List ℕ)) : Type 0 where
  pub more : HasMoreThan answers limit all s t old new
  pub size : length more.lines ≡ bytes

-- how a stream stops with an error if at most `limit` of its rows are answered; `HasStopped` is for
-- a stream without such a limit
abbrev pub HasStoppedAfter : {S : Type 0} → AnswersOf S → FailsOf S → ℕ → Bool → ℕ → StreamError → Option (List (List (List ℕ))) → Option (List (List (List ℕ))) → Bool → S → S → Option (List ℕ) → Option (List ℕ) → Type 0
HasStoppedAfter answers fails limit flush bytes error.Memory all left failed s t old new =
    ((failed ≡ true) × StopsAfterRows answers limit bytes all s t old new)
    ⊎ StopsInRowAfter answers fails limit flush bytes error.Memory all left s t old new
HasStoppedAfter answers fails limit flush bytes error.Read all left failed s t old new =
    (failed ≡ true) × StopsAfterRows answers limit bytes all s t old new
HasStoppedAfter answers fails limit flush bytes error.Write all left failed s t old new =
    StopsInRowAfter answers fails limit flush bytes error.Write all left s t old new
HasStoppedAfter answers fails limit flush bytes error.Flush all left failed s t old new =
    StopsInRowAfter answers fails limit flush bytes error.Flush all left s t old new
HasStoppedAfter answers fails limit flush bytes error.TooManyRows all left failed s t old new =
    HasMoreRows answers limit bytes all s t old new

-- how the answer to a row stops: with an error of the stream, or because the answer fails with a
-- fault
abbrev pub IsRowStop : {S F : Type 0} → AnswersOf S → (F → FailsOf S) → Bool → ℕ → ℕ → StreamStop F → ℕ → List (List ℕ) → S → S → Option (List ℕ) → Option (List ℕ) → Type 0
IsRowStop answers fails flush before after (stop.Stream why) place fields s t old new =
    IsRowStoppedAfter answers NeverFails flush before after why place fields s t old new
IsRowStop answers fails flush before after (stop.Answer fault) place fields s t old new =
    IsRowStoppedAfter answers (fails fault) flush before after error.Memory place fields s t old new

-- How a stream stops if at most `limit` of its rows are answered. It stops with an error of the
-- stream, or because the answer to a row fails with a fault.
abbrev pub IsStoppedAfter : {S F : Type 0} → AnswersOf S → (F → FailsOf S) → ℕ → Bool → ℕ → StreamStop F → Option (List (List (List ℕ))) → Option (List (List (List ℕ))) → Bool → S → S → Option (List ℕ) → Option (List ℕ) → Type 0
IsStoppedAfter answers fails limit flush bytes (stop.Stream why) all left failed s t old new =
    HasStoppedAfter answers NeverFails limit flush bytes why all left failed s t old new
IsStoppedAfter answers fails limit flush bytes (stop.Answer fault) all left failed s t old new =
    StopsInRowAfter answers (fails fault) limit flush bytes error.Memory all left s t old new
