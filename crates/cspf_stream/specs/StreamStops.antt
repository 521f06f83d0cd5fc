-- What was read, answered and written if a stream stops before its end.
use Rattle.std.specs.Prelude.{◌≡◌, ℕ, suc, ◌<◌, ◌⊎◌, Bool, true, List, ◌∷◌, ◌++◌, take, length, Option, Some, IfSome}
use Rattle.std.specs.Io.KnownBytes.{Appends}
use Rattle.std.specs.Io.KnownBytes as known
use Rattle.cspf_stream.specs.RowAnswers.{AnswersOf, AreAnswered}
use Rattle.cspf_stream.specs.declared.limits.TheConstants.{MOST_STREAM_ROWS}
use Rattle.cspf_stream.specs.declared.error.StreamError.{StreamError}
use Rattle.cspf_stream.specs.declared.error.StreamError.TheVariants as error
use Rattle.cspf_stream.specs.declared.error.StreamStop.{StreamStop}
use Rattle.cspf_stream.specs.declared.error.StreamStop.TheVariants as stop

-- A relation for rows whose answer fails with a certain fault, such as refused memory. It is
-- between the row's number, the state before the row, the row's fields, and the state after the
-- failure.
abbrev pub FailsOf : Type 0 → Type 1
FailsOf S = ℕ → S → List (List ℕ) → S → Type 0

-- how the writing of a row's line stops: a part of the line is written, or the line is written and
-- the flush fails
abbrev pub IsLineStopped : StreamError → List ℕ → Option (List ℕ) → Option (List ℕ) → Type 0
IsLineStopped error.Write line old new = (size : ℕ) × (size < length line) × Appends old new (take size line)
IsLineStopped error.Flush line old new = Appends old new line
IsLineStopped other line old new = ⊥

-- How the answer to row `place` stops. If memory is refused, nothing is written. If a write fails,
-- a part of the line is written, but not all of it. If a flush fails, the whole line is written.
abbrev pub IsRowStopped : {S : Type 0} → AnswersOf S → FailsOf S → StreamError → ℕ → List (List ℕ) → S → S → Option (List ℕ) → Option (List ℕ) → Type 0
IsRowStopped answers fails error.Memory place fields s t old new = fails place s fields t × known.Keeps old new
IsRowStopped answers fails error.Write place fields s t old new =
    (line : List ℕ) × answers place s fields line t × IsLineStopped error.Write line old new
IsRowStopped answers fails error.Flush place fields s t old new =
    (line : List ℕ) × answers place s fields line t × IsLineStopped error.Flush line old new
IsRowStopped answers fails other place fields s t old new = ⊥

-- The stream stops between two rows: a prefix of the rows is answered, and their lines are written.
pub record StopsBetween {S : Type 0} (answers : AnswersOf S) (all : Option (List (List (List ℕ)))) (s t : S) (old new : Option (List ℕ)) : Type 0 where
  pub done : List (List (List ℕ))
  pub rest : List (List (List ℕ))
  pub lines : List ℕ
  pub split : IfSome all (λ rows. rows ≡ done ++ rest)
  pub answered : AreAnswered answers 1 s done lines t
  pub written : Appends old new lines

-- A prefix of the rows is answered, and their lines are written. The stream stops at the next row,
-- and no row after this row was read. The relation `Stops` describes how the stream stops. It is
-- between the answered rows, their lines, the fields of the next row, and the state and the writer
-- before the next row.
pub record StopsAtRow {S : Type 0} (answers : AnswersOf S) (Stops : List (List (List ℕ)) → List ℕ → List (List ℕ) → S → Option (List ℕ) → Type 0) (all left : Option (List (List (List ℕ)))) (s : S) (old : Option (List ℕ)) : Type 0 where
  pub done : List (List (List ℕ))
  pub fields : List (List ℕ)
  pub rest : List (List (List ℕ))
  pub lines : List ℕ
  pub before : S
  pub mid : Option (List ℕ)
  pub split : IfSome all (λ rows. (rows ≡ done ++ (fields ∷ rest)) × (left ≡ Some rest))
  pub answered : AreAnswered answers 1 s done lines before
  pub written : Appends old mid lines
  pub stops : Stops done lines fields before mid

-- The stream stops while a row is answered.
abbrev pub StopsInRow : {S : Type 0} → AnswersOf S → FailsOf S → StreamError → Option (List (List (List ℕ))) → Option (List (List (List ℕ))) → S → S → Option (List ℕ) → Option (List ℕ) → Type 0
StopsInRow answers fails error all left s t old new =
    StopsAtRow answers (λ done lines fields before mid. IsRowStopped answers fails error (suc (length done)) fields before t mid new) all left s old

-- Exactly `limit` rows are answered, and their lines are written. The stream has at least one more
-- row.
pub record HasMoreThan {S : Type 0} (answers : AnswersOf S) (limit : ℕ) (all : Option (List (List (List ℕ)))) (s t : S) (old new : Option (List ℕ)) : Type 0 where
  pub done : List (List (List ℕ))
  pub fields : List (List ℕ)
  pub rest : List (List (List ℕ))
  pub lines : List ℕ
  pub count : length done ≡ limit
  pub split : IfSome all (λ rows. rows ≡ done ++ (fields ∷ rest))
  pub answered : AreAnswered answers 1 s done lines t
  pub written : Appends old new lines

-- How a stream stops with an error. `failed` says whether the reader has failed: a read failed, or
-- memory was refused before a row was read whole.
abbrev pub HasStopped : {S : Type 0} → AnswersOf S → FailsOf S → StreamError → Option (List (List (List ℕ))) → Option (List (List (List ℕ))) → Bool → S → S → Option (List ℕ) → Option (List ℕ) → Type 0
HasStopped answers fails error.Memory all left failed s t old new =
    ((failed ≡ true) × StopsBetween answers all s t old new) ⊎ StopsInRow answers fails error.Memory all left s t old new
HasStopped answers fails error.Read all left failed s t old new = (failed ≡ true) × StopsBetween answers all s t old new
HasStopped answers fails error.Write all left failed s t old new = StopsInRow answers fails error.Write all left s t old new
HasStopped answers fails error.Flush all left failed s t old new = StopsInRow answers fails error.Flush all left s t old new
HasStopped answers fails error.TooManyRows all left failed s t old new = HasMoreThan answers MOST_STREAM_ROWS all s t old new

-- no answer to a row fails
abbrev pub NeverFails : {S : Type 0} → FailsOf S
NeverFails place s fields t = ⊥

-- How a stream stops: with an error of the stream, or because the answer to a row fails with a
-- fault. `fails` gives the state after each fault.
abbrev pub IsStreamStopped : {S F : Type 0} → AnswersOf S → (F → FailsOf S) → StreamStop F → Option (List (List (List ℕ))) → Option (List (List (List ℕ))) → Bool → S → S → Option (List ℕ) → Option (List ℕ) → Type 0
IsStreamStopped answers fails (stop.Stream why) all left failed s t old new = HasStopped answers NeverFails why all left failed s t old new
IsStreamStopped answers fails (stop.Answer fault) all left failed s t old new = StopsInRow answers (fails fault) error.Memory all left s t old new

-- The error of a stream whose answers fail only if memory is refused.
abbrev pub stream_error_of : {F : Type 0} → StreamStop F → StreamError
stream_error_of (stop.Stream why) = why
stream_error_of (stop.Answer fault) = error.Memory
