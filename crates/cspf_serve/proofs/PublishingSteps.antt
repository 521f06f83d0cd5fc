-- The stream of a run: its last line, and the source of the publisher's journal after its rows.
use Rattle.std.proofs.Common.{◌≡◌, ℕ, suc, Bool, List, [], ◌∷◌, length, Option, Result, Ok, Err, OnOk, IfErr, inl, inr, refl, ◌∙◌}
use Rattle.std.specs.Io.KnownBytes.{Appends}
use Rattle.cspf_stream.specs.RowAnswers.{AnswersOf, AreAnswered}
use Rattle.cspf_stream.specs.StreamStops.{FailsOf, IsLineStopped, IsStreamStopped}
use Rattle.cspf_stream.specs.declared.error.StreamError.{StreamError}
use Rattle.cspf_stream.specs.declared.error.StreamError.TheVariants as error
use Rattle.cspf_stream.specs.declared.error.StreamStop.{StreamStop}
use Rattle.cspf_stream.specs.declared.error.StreamStop.TheVariants as stop
use Rattle.cspf_serve.specs.Publishing.{PublishingSpec, HasOneSource}
use Rattle.cspf_serve.specs.PublishingRuns.{IsLastPut, IsStreamRun}

abbrev Rows : Type 0
Rows = List (List (List ℕ))

-- if `Last` holds of a line, and this line is written or writing it fails, the last line is written
-- or writing it fails
pub last_put : (put : Result (Unit {0}) StreamError) (Last : List ℕ → Type 0) (line : List ℕ) (old new : Option (List ℕ)) → Last line
    → OnOk put (Appends old new line) → IfErr put (λ why. IsLineStopped why line old new) → IsLastPut put Last old new
last_put (Ok done) Last line old new is whole stopped = (line, is, whole)
last_put (Err error.Write) Last line old new is whole stopped = (line, is, stopped)
last_put (Err error.Flush) Last line old new is whole stopped = (line, is, stopped)
last_put (Err other) Last line old new is whole stopped = absurd stopped

module _ {S J L F : Type 0} (spec : PublishingSpec S J L) (answers : AnswersOf S) (fails : F → FailsOf S) (one : HasOneSource spec answers fails) where
  -- `t` is a state after the state `s`: the invariant holds, and the source is the same
  abbrev IsLater : S → S → Type 0
  IsLater s t = spec.invariant t × ((spec.publisher t).source ≡ (spec.publisher s).source)

  over_rows : (before : ℕ) (s t : S) (rows : Rows) (lines : List ℕ) → spec.invariant s → AreAnswered answers (suc before) s rows lines t → IsLater s t
  unfolding AreAnswered
  over_rows before s t [] lines holds a = rw a.1 (holds, refl)
  over_rows before s t (fields ∷ rows) lines holds a =
      let first = one.answered before s a.1 fields a.0 holds a.3 in
      let rest = over_rows (suc before) a.1 t rows a.2 first.0 a.5 in
      (rest.0, rest.1 ∙ first.1)

  at_stop : (why : StreamStop F) (all left : Option Rows) (failed : Bool) (s t : S) (old new : Option (List ℕ)) → spec.invariant s → IsStreamStopped answers fails why all left failed s t old new
      → (spec.publisher t).source ≡ (spec.publisher s).source
  at_stop (stop.Answer fault) all left failed s t old new holds a =
      let begun = over_rows 0 s a.before a.done a.lines holds a.answered in
      one.failed fault (length a.done) a.before t a.fields begun.0 a.stops.0 ∙ begun.1
  at_stop (stop.Stream error.Memory) all left failed s t old new holds (inl a) = (over_rows 0 s t a.1.done a.1.lines holds a.1.answered).1
  at_stop (stop.Stream error.Memory) all left failed s t old new holds (inr a) = absurd a.stops.0
  at_stop (stop.Stream error.Read) all left failed s t old new holds a = (over_rows 0 s t a.1.done a.1.lines holds a.1.answered).1
  at_stop (stop.Stream error.TooManyRows) all left failed s t old new holds a = (over_rows 0 s t a.done a.lines holds a.answered).1
  at_stop (stop.Stream error.Write) all left failed s t old new holds a =
      let begun = over_rows 0 s a.before a.done a.lines holds a.answered in
      (one.answered (length a.done) a.before t a.fields a.stops.0 begun.0 a.stops.1).1 ∙ begun.1
  at_stop (stop.Stream error.Flush) all left failed s t old new holds a =
      let begun = over_rows 0 s a.before a.done a.lines holds a.answered in
      (one.answered (length a.done) a.before t a.fields a.stops.0 begun.0 a.stops.1).1 ∙ begun.1

  -- the source of the publisher's journal after the rows of a stream is that before them
  pub source_of_run : (ended : Result (Unit {0}) StreamError) (all : Option Rows) (s t : S) (old new : Option (List ℕ)) → spec.invariant s → IsStreamRun answers fails spec.last ended all s t old new
      → (spec.publisher t).source ≡ (spec.publisher s).source
  source_of_run ended all s t old new holds (inl a) = (over_rows 0 s t a.1.done a.1.lines holds a.1.answered).1
  source_of_run ended all s t old new holds (inr a) = at_stop a.0 all a.1 a.2 s t old new holds a.4
