-- A run over the rows of a stream: the rows are answered up to a limit, and then the last line is
-- written.
use Rattle.std.specs.Prelude.{◌≡◌, ℕ, suc, ◌+◌, ◌<◌, ◌≤◌, ◌⊎◌, nat_lt, Bool, true, false, List, [], ◌∷◌, ◌++◌, take, length, Option, IfSome, Result, Ok, Err, MatchResult}
use Rattle.std.specs.Io.KnownBytes.{Appends}
use Rattle.std.specs.Io.KnownBytes as known
use Rattle.cspf_stream.specs.RowAnswers.{AnswersOf, AreAnswered}
use Rattle.cspf_stream.specs.StreamStops.{FailsOf}
use Rattle.cspf_stream.specs.declared.error.RunStop.{RunStop}
use Rattle.cspf_stream.specs.declared.error.RunStop.TheVariants as run_stop
use Rattle.cspf_stream.specs.declared.error.StreamError.TheVariants as stream_error
use Rattle.cspf_stream.specs.declared.error.StreamStop.{StreamStop}
use Rattle.cspf_stream.specs.declared.error.StreamStop.TheVariants as stop

-- a relation between the state after the answered rows, whether there are more rows, and the last
-- line
abbrev pub LastOf : Type 0 → Type 1
LastOf S = S → Bool → List ℕ → Type 0

-- A prefix of the rows, at most `limit` rows, is answered, from the state `s` to the state `t`, and
-- the lines of these rows are written.
pub record IsPrefixAnswered {S : Type 0} (answers : AnswersOf S) (limit : ℕ) (all : Option (List (List (List ℕ)))) (s t : S) (old new : Option (List ℕ)) : Type 0 where
  pub done : List (List (List ℕ))
  pub rest : List (List (List ℕ))
  pub lines : List ℕ
  pub split : IfSome all (λ rows. rows ≡ done ++ rest)
  pub few : length done ≤ limit
  pub answered : AreAnswered answers 1 s done lines t
  pub written : Appends old new lines

-- The first rows of a stream, up to the limit, are answered, and then the last line is written.
-- `too_many` says whether there are more rows.
pub record HasRun {S : Type 0} (answers : AnswersOf S) (last : LastOf S) (limit : ℕ) (too_many : Bool) (all : Option (List (List (List ℕ)))) (s t : S) (old new : Option (List ℕ)) : Type 0 where
  pub done : List (List (List ℕ))
  pub lines : List ℕ
  pub text : List ℕ
  pub first : IfSome all (λ rows. (take limit rows ≡ done) × (nat_lt limit (length rows) ≡ too_many))
  pub few : length done ≤ limit
  pub answered : AreAnswered answers 1 s done lines t
  pub ends : last t too_many text
  pub written : Appends old new (lines ++ text)

-- The answer to a row fails. The lines of all rows before this row are written.
pub record FailsAtRow {S : Type 0} (answers : AnswersOf S) (fails : FailsOf S) (limit : ℕ) (all : Option (List (List (List ℕ)))) (s t : S) (old new : Option (List ℕ)) : Type 0 where
  pub before : S
  pub begun : IsPrefixAnswered answers limit all s before old new
  pub fields : List (List ℕ)
  pub more : List (List (List ℕ))
  pub next : begun.rest ≡ fields ∷ more
  pub few : length begun.done < limit
  pub failed : fails (suc (length begun.done)) before fields t

-- The text that a run writes after the lines that answer the rows `done`, and the state `t` in
-- which it writes the text: it is the line of the next row, or the last line of the run.
abbrev pub IsNextOutput : {S : Type 0} → AnswersOf S → LastOf S → ℕ → List (List (List ℕ)) → S → List (List (List ℕ)) → List ℕ → S → Type 0
IsNextOutput answers last limit done s [] text t = last s false text × (t ≡ s)
IsNextOutput answers last limit done s (fields ∷ rest) text t =
    ((length done < limit) × answers (suc (length done)) s fields text t)
    ⊎ ((length done ≡ limit) × last s true text × (t ≡ s))

-- The output is the lines of a prefix of the rows, followed by the first `size` bytes of the next
-- text, though not by the whole text. The output has `count` bytes.
pub record StopsInText {S : Type 0} (answers : AnswersOf S) (last : LastOf S) (limit count : ℕ) (all : Option (List (List (List ℕ)))) (s t : S) (old new : Option (List ℕ)) : Type 0 where
  pub before : S
  pub mid : Option (List ℕ)
  pub begun : IsPrefixAnswered answers limit all s before old mid
  pub text : List ℕ
  pub next : IsNextOutput answers last limit begun.done before begun.rest text t
  pub size : ℕ
  pub part : size < length text
  pub written : Appends old new (begun.lines ++ take size text)
  pub bytes : length (begun.lines ++ take size text) ≡ count

-- How a run stops. `failed` says whether the reader has failed.
abbrev pub IsRunStopped : {S F : Type 0} → AnswersOf S → (F → FailsOf S) → LastOf S → ℕ → RunStop F → Option (List (List (List ℕ))) → Bool → S → S → Option (List ℕ) → Option (List ℕ) → Type 0
IsRunStopped answers fails last limit run_stop.Memory all failed s t old new = IsPrefixAnswered answers limit all s t old new
IsRunStopped answers fails last limit run_stop.Read all failed s t old new = (failed ≡ true) × IsPrefixAnswered answers limit all s t old new
IsRunStopped answers fails last limit (run_stop.Write written) all failed s t old new = StopsInText answers last limit written all s t old new
IsRunStopped answers fails last limit (run_stop.Answer fault) all failed s t old new = FailsAtRow answers (fails fault) limit all s t old new

-- Whether there are too many rows, if `rest` are the rows after the first `count` rows. If there
-- aren't, `rest` is empty, and `count` is at most the limit. If there are, `rest` isn't empty, and
-- `count` is the limit.
abbrev pub AreBeyond : ℕ → Bool → ℕ → List (List (List ℕ)) → Type 0
AreBeyond limit false count rest = (rest ≡ []) × (count ≤ limit)
AreBeyond limit true count rest = (0 < length rest) × (count ≡ limit)

-- Private: the rows up to the limit are answered, and their lines have `bytes` bytes.
pub record HasReadRows {S : Type 0} (answers : AnswersOf S) (limit bytes : ℕ) (too_many : Bool) (all : Option (List (List (List ℕ)))) (s t : S) (old new : Option (List ℕ)) : Type 0 where
  pub begun : IsPrefixAnswered answers limit all s t old new
  pub past : AreBeyond limit too_many (length begun.done) begun.rest
  pub size : length begun.lines ≡ bytes

-- Private: the rows up to the limit are answered, or the run stops before its last line.
abbrev pub IsRowsEnd : {S F : Type 0} → AnswersOf S → (F → FailsOf S) → LastOf S → ℕ → ℕ → Result Bool (RunStop F) → Option (List (List (List ℕ))) → Bool → S → S → Option (List ℕ) → Option (List ℕ) → Type 0
IsRowsEnd answers fails last limit bytes ended all failed s t old new =
    MatchResult ended (λ too_many. HasReadRows answers limit bytes too_many all s t old new)
    (λ why. IsRunStopped answers fails last limit why all failed s t old new)

-- Private: how the reading of the rows ends after `written` bytes of output. A run makes no flush,
-- so a failed flush can't happen.
abbrev pub rows_end : {F : Type 0} → ℕ → Result (Unit {0}) (StreamStop F) → Result Bool (RunStop F)
rows_end written (Ok done) = Ok false
rows_end written (Err (stop.Answer fault)) = Err (run_stop.Answer fault)
rows_end written (Err (stop.Stream stream_error.TooManyRows)) = Ok true
rows_end written (Err (stop.Stream stream_error.Memory)) = Err run_stop.Memory
rows_end written (Err (stop.Stream stream_error.Read)) = Err run_stop.Read
rows_end written (Err (stop.Stream stream_error.Write)) = Err (run_stop.Write written)
rows_end written (Err (stop.Stream stream_error.Flush)) = Err (run_stop.Write written)

-- Private: how the writing of the last line stops. `before` bytes were written before this line.
abbrev pub IsLastStopped : {S F : Type 0} → LastOf S → S → Bool → ℕ → RunStop F → Option (List ℕ) → Option (List ℕ) → Type 0
IsLastStopped last s too_many before run_stop.Memory old new = known.Keeps old new
IsLastStopped last s too_many before run_stop.Read old new = ⊥
IsLastStopped last s too_many before (run_stop.Write written) old new =
    (line : List ℕ) × (size : ℕ) × last s too_many line × (size < length line) × Appends old new (take size line) × (written ≡ before + size)
IsLastStopped last s too_many before (run_stop.Answer fault) old new = ⊥
