-- How a run over the rows of a stream follows from the answers to its rows and from its last line.
use Rattle.std.proofs.Common.{◌≡◌, ℕ, suc, ◌+◌, ◌<◌, nat_lt, Bool, true, false, List, [], ◌∷◌, ◌++◌, take, length, length-append, Option, Some, None, IfSome, Result, Ok, Err, IfOk, IfErr, OnOk, inl, inr, refl, sym, subst, ◌∙◌, append-nil, arith}
use Rattle.std.proofs.KnownBytes.{Appends-trans, Appends-kept}
use Rattle.std.proofs.lemmas.Bool.{lt-ltb, le-ltb, false≢true}
use Rattle.std.proofs.lemmas.List.{take_all, take_at, length-take-le}
use Rattle.std.specs.Io.KnownBytes.{Appends}
use Rattle.cspf_stream.specs.FirstRows.{AreFirstRowsAnswered, HasMoreRows, StopsAfterRows, StopsInRowAfter, IsStoppedAfter}
use Rattle.cspf_stream.specs.RowAnswers.{AnswersOf, AreAnswered}
use Rattle.cspf_stream.specs.Runs.{LastOf, IsPrefixAnswered, HasRun, FailsAtRow, IsNextOutput, StopsInText, IsRunStopped, AreBeyond, HasReadRows, IsRowsEnd, IsLastStopped, rows_end}
use Rattle.cspf_stream.specs.StreamStops.{FailsOf, NeverFails}
use Rattle.cspf_stream.specs.declared.error.RunStop.{RunStop}
use Rattle.cspf_stream.specs.declared.error.RunStop.TheVariants as run_stop
use Rattle.cspf_stream.specs.declared.error.StreamError.{StreamError}
use Rattle.cspf_stream.specs.declared.error.StreamError.TheVariants as stream_error
use Rattle.cspf_stream.specs.declared.error.StreamStop.{StreamStop}
use Rattle.cspf_stream.specs.declared.error.StreamStop.TheVariants as stop

abbrev Rows : Type 0
Rows = List (List (List ℕ))

-- if a run has answered the rows `done`, they are the first rows up to the limit, and `too_many`
-- says whether there are more
pub rows_read : (limit : ℕ) (too_many : Bool) (rows done rest : List (List (List ℕ))) → rows ≡ done ++ rest → AreBeyond limit too_many (length done) rest
    → (take limit rows ≡ done) × (nat_lt limit (length rows) ≡ too_many)
rows_read limit false rows done rest split past =
    let is : rows ≡ done = split ∙ rw past.0 (append-nil done) in
    rw is (take_all limit done past.1, le-ltb limit (length done) past.1)
rows_read limit true rows done rest split past =
    rw split (take_at done rest limit past.1, lt-ltb limit (length (done ++ rest)) (omega (arith, past.0, past.1, length-append done rest)))

first_read : (limit : ℕ) (too_many : Bool) (all : Option Rows) (done rest : Rows) → IfSome all (λ rows. rows ≡ done ++ rest) → AreBeyond limit too_many (length done) rest
    → IfSome all (λ rows. (take limit rows ≡ done) × (nat_lt limit (length rows) ≡ too_many))
first_read limit too_many None done rest split past = tt
first_read limit too_many (Some rows) done rest split past = rows_read limit too_many rows done rest split past

whole_split : (all : Option Rows) (done : Rows) → IfSome all (λ rows. rows ≡ done) → IfSome all (λ rows. rows ≡ done ++ [])
whole_split None done is = tt
whole_split (Some all) done is = is ∙ sym (append-nil done)

in_row_split : (all left : Option Rows) (done rest : Rows) (fields : List (List ℕ)) → IfSome all (λ rows. (rows ≡ done ++ (fields ∷ rest)) × (left ≡ Some rest))
    → IfSome all (λ rows. rows ≡ done ++ (fields ∷ rest))
in_row_split None left done rest fields is = tt
in_row_split (Some all) left done rest fields is = is.0

cut_text : (lines line : List ℕ) (size n : ℕ) → size < length line → n ≡ length lines + size → length (lines ++ take size line) ≡ n
cut_text lines line size n part is = length-append lines (take size line) ∙ rw (length-take-le size line (omega (arith, part)), is) refl

module _ {S F : Type 0} (answers : AnswersOf S) (fails : F → FailsOf S) (last : LastOf S) (limit bytes : ℕ) (all left : Option (List (List (List ℕ)))) (failed : Bool) (s t : S) (old new : Option (List ℕ)) where
  read_all : AreFirstRowsAnswered answers limit bytes all s t old new → HasReadRows answers limit bytes false all s t old new
  read_all a =
      let w = a.whole in
      record {
        begun = record { done = w.done; rest = []; lines = w.lines; split = whole_split all w.done w.whole; few = a.few; answered = w.answered; written = w.written };
        past = (refl, a.few);
        size = a.size;
      }

  read_more : HasMoreRows answers limit bytes all s t old new → HasReadRows answers limit bytes true all s t old new
  read_more a =
      let m = a.more in
      record {
        begun = record { done = m.done; rest = m.fields ∷ m.rest; lines = m.lines; split = m.split; few = omega (arith, m.count); answered = m.answered; written = m.written };
        past = (omega arith, m.count);
        size = a.size;
      }

  between : StopsAfterRows answers limit bytes all s t old new → IsPrefixAnswered answers limit all s t old new
  between a =
      let b = a.between in
      record { done = b.done; rest = b.rest; lines = b.lines; split = b.split; few = a.few; answered = b.answered; written = b.written }

  -- the rows before the row at which the stream stops, after which `at` is written
  abbrev before_row : (fails : FailsOf S) (why : StreamError) (a : StopsInRowAfter answers fails limit false bytes why all left s t old new) (at : Option (List ℕ)) → Appends old at a.lines
      → IsPrefixAnswered answers limit all s a.before old at
  before_row fails why a at text = record {
    done = a.done;
    rest = a.fields ∷ a.rest;
    lines = a.lines;
    split = in_row_split all left a.done a.rest a.fields a.split;
    few = omega (arith, a.stops.0);
    answered = a.answered;
    written = text;
  }

  at_row : (fault : F) → StopsInRowAfter answers (fails fault) limit false bytes stream_error.Memory all left s t old new → FailsAtRow answers (fails fault) limit all s t old new
  at_row fault a = record {
    before = a.before;
    begun = before_row (fails fault) stream_error.Memory a new (Appends-kept old a.mid new a.lines a.written a.stops.1.1);
    fields = a.fields;
    more = a.rest;
    next = refl;
    few = a.stops.0;
    failed = a.stops.1.0;
  }

  at_write : StopsInRowAfter answers NeverFails limit false bytes stream_error.Write all left s t old new → StopsInText answers last limit bytes all s t old new
  at_write a =
      let cut = a.stops.1 in
      record {
        before = a.before;
        mid = a.mid;
        begun = before_row NeverFails stream_error.Write a a.mid a.written;
        text = cut.0;
        next = inl (a.stops.0, cut.2);
        size = cut.1;
        part = cut.3;
        written = Appends-trans old a.mid new a.lines (take cut.1 cut.0) a.written cut.4;
        bytes = cut_text a.lines cut.0 cut.1 bytes cut.3 cut.5;
      }

  pub rows_end_is : (ended : Result (Unit {0}) (StreamStop F)) → OnOk ended (AreFirstRowsAnswered answers limit bytes all s t old new)
      → IfErr ended (λ why. IsStoppedAfter answers fails limit false bytes why all left failed s t old new)
      → IsRowsEnd answers fails last limit bytes (rows_end bytes ended) all failed s t old new
  rows_end_is (Ok x) whole stopped = read_all whole
  rows_end_is (Err (stop.Answer fault)) whole stopped = at_row fault stopped
  rows_end_is (Err (stop.Stream stream_error.TooManyRows)) whole stopped = read_more stopped
  rows_end_is (Err (stop.Stream stream_error.Memory)) whole (inl a) = between a.1
  rows_end_is (Err (stop.Stream stream_error.Memory)) whole (inr a) = absurd a.stops.1.0
  rows_end_is (Err (stop.Stream stream_error.Read)) whole stopped = (stopped.0, between stopped.1)
  rows_end_is (Err (stop.Stream stream_error.Write)) whole stopped = at_write stopped
  rows_end_is (Err (stop.Stream stream_error.Flush)) whole stopped = absurd (false≢true stopped.stops.1.2)

-- ---- the last line

next_is_last : {S : Type 0} (answers : AnswersOf S) (last : LastOf S) (limit : ℕ) (too_many : Bool) (done rest : Rows) (s : S) (line : List ℕ) → AreBeyond limit too_many (length done) rest → last s too_many line
    → IsNextOutput answers last limit done s rest line s
next_is_last answers last limit false done [] s line past is = (is, refl)
next_is_last answers last limit false done (fields ∷ rest) s line past is = absurd (cc past.0)
next_is_last answers last limit true done [] s line past is = absurd (omega (arith, past.0))
next_is_last answers last limit true done (fields ∷ rest) s line past is = inr (past.1, is, refl)

module _ {S F : Type 0} (answers : AnswersOf S) (fails : F → FailsOf S) (last : LastOf S) (limit bytes : ℕ) (too_many : Bool) (all : Option (List (List (List ℕ)))) (failed : Bool) (s t : S) (old mid new : Option (List ℕ)) (run : HasReadRows answers limit bytes too_many all s t old mid) where
  has_run : (line : List ℕ) → last t too_many line → Appends mid new line → HasRun answers last limit too_many all s t old new
  has_run line ends put =
      let b = run.begun in
      record {
        done = b.done;
        lines = b.lines;
        text = line;
        first = first_read limit too_many all b.done b.rest b.split run.past;
        few = b.few;
        answered = b.answered;
        ends = ends;
        written = Appends-trans old mid new b.lines line b.written put;
      }

  pub run_ends : (r : Result Bool (RunStop F)) → IfOk r (λ more. more ≡ too_many) → IfOk r (λ more. (line : List ℕ) × last t too_many line × Appends mid new line)
      → IfOk r (λ more. HasRun answers last limit more all s t old new)
  run_ends (Err why) same put = tt
  run_ends (Ok more) same put = rw same (has_run put.0 put.1 put.2)

  stops : (why : RunStop F) → IsLastStopped last t too_many bytes why mid new → IsRunStopped answers fails last limit why all failed s t old new
  stops run_stop.Memory cut =
      let b = run.begun in
      record { done = b.done; rest = b.rest; lines = b.lines; split = b.split; few = b.few; answered = b.answered; written = Appends-kept old mid new b.lines b.written cut }
  stops run_stop.Read cut = absurd cut
  stops (run_stop.Write written) cut =
      let b = run.begun in
      record {
        before = t;
        mid = mid;
        begun = b;
        text = cut.0;
        next = next_is_last answers last limit too_many b.done b.rest t cut.0 run.past cut.2;
        size = cut.1;
        part = cut.3;
        written = Appends-trans old mid new b.lines (take cut.1 cut.0) b.written cut.4;
        bytes = cut_text b.lines cut.0 cut.1 written cut.3 (omega (arith, cut.5, run.size));
      }
  stops (run_stop.Answer fault) cut = absurd cut

  pub run_stops : (r : Result Bool (RunStop F)) → IfErr r (λ why. IsLastStopped last t too_many bytes why mid new) → IfErr r (λ why. IsRunStopped answers fails last limit why all failed s t old new)
  run_stops (Ok more) cut = tt
  run_stops (Err why) cut = stops why cut

-- ---- from the code's states to those of a specification

-- `Keeps place k s`: before the row with the number `place` the code is in the state `k`, and the
-- specification in the state `s`. If this stays so from row to row, it stays so over all rows, and
-- both answer them with the same lines.
pub carried : {S T : Type 0} (code : AnswersOf S) (spec : AnswersOf T) (Keeps : ℕ → S → T → Type 0)
    → ((place : ℕ) (k k' : S) (s : T) (fields : List (List ℕ)) (line : List ℕ) → Keeps place k s → code place k fields line k' → (t : T) × Keeps (suc place) k' t × spec place s fields line t)
    → (place : ℕ) (k k' : S) (s : T) (rows : List (List (List ℕ))) (lines : List ℕ) → Keeps place k s → AreAnswered code place k rows lines k'
    → (t : T) × Keeps (place + length rows) k' t × AreAnswered spec place s rows lines t
unfolding AreAnswered
carried code spec Keeps step place k k' s [] lines kept a =
    let here : place ≡ place + 0 = omega arith in
    (s, subst (λ n. Keeps n k' s) here (rw a.1 kept), (a.0, refl))
carried code spec Keeps step place k k' s (fields ∷ rows) lines kept a =
    let one = step place k a.1 s fields a.0 kept a.3 in
    let rest = carried code spec Keeps step (suc place) a.1 k' one.0 rows a.2 one.1 a.5 in
    let there : suc place + length rows ≡ place + suc (length rows) = omega arith in
    (rest.0, subst (λ n. Keeps n k' rest.0) there rest.1, (a.0, one.0, a.2, one.2, a.4, rest.2))
