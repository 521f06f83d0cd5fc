-- What is true of a stream of rows after its first rows are read and answered.
use Rattle.std.proofs.Common.{◌≡◌, ℕ, suc, ◌+◌, ◌<◌, ◌≤◌, Bool, true, false, List, [], ◌∷◌, ◌++◌, length, length-append, Option, Some, None, IfSome, Result, Ok, Err, OnOk, IfErr, inl, inr, refl, sym, ap, ◌∙◌, append_assoc, append-nil, arith}
use Rattle.std.proofs.KnownBytes.{Appends-nil, Appends-trans}
use Rattle.std.specs.Io.KnownBytes.{Appends}
use Rattle.cspf_rows.specs.ReadFaults.{stream_fault_of}
use Rattle.cspf_rows.specs.Records.{Takes}
use Rattle.cspf_rows.specs.declared.record_error.RecordError.{RecordError}
use Rattle.cspf_rows.specs.declared.record_error.RecordError.TheVariants as fault
use Rattle.cspf_stream.specs.RowAnswers.{AnswersOf, AreAnswered, AreAllAnswered}
use Rattle.cspf_stream.specs.FirstRows.{AreFirstRowsAnswered, StopsAfterRows, StopsInRowAfter, IsRowStoppedAfter, IsRowStop, IsLineStoppedAfter, HasStoppedAfter, IsStoppedAfter}
use Rattle.cspf_stream.specs.StreamStops.{FailsOf, NeverFails, IsRowStopped, IsLineStopped, HasStopped, IsStreamStopped, StopsAtRow, StopsInRow, stream_error_of}
use Rattle.cspf_stream.specs.declared.limits.TheConstants.{MOST_STREAM_ROWS}
use Rattle.cspf_stream.specs.declared.error.StreamError.{StreamError}
use Rattle.cspf_stream.specs.declared.error.StreamError.TheVariants as stream_error
use Rattle.cspf_stream.specs.declared.error.StreamStop.{StreamStop}
use Rattle.cspf_stream.specs.declared.error.StreamStop.TheVariants as stop

abbrev Rows : Type 0
Rows = List (List (List ℕ))

-- The stream has the rows that were read, followed by the rows that are left.
abbrev pub IsReadUpTo : Option (List (List (List ℕ))) → List (List (List ℕ)) → Option (List (List (List ℕ))) → Type 0
IsReadUpTo all done left = IfSome all (λ rows. (rest : List (List (List ℕ))) × (left ≡ Some rest) × (rows ≡ done ++ rest))

-- The first `read` rows of a stream are answered, and their lines have `bytes` bytes. The answers
-- begin in the state `s` and end in the state `t`.
pub record IsGoing {S : Type 0} (answers : AnswersOf S) (all left : Option (List (List (List ℕ)))) (s t : S) (old new : Option (List ℕ)) (read bytes : ℕ) : Type 0 where
  pub done : List (List (List ℕ))
  pub lines : List ℕ
  pub count : length done ≡ read
  pub split : IsReadUpTo all done left
  pub answered : AreAnswered answers 1 s done lines t
  pub written : Appends old new lines
  pub size : length lines ≡ bytes

-- If a row was read, it was the first of the rows that were left.
row_read : (left next : Option Rows) (rows : Rows) (fields : List (List ℕ)) → left ≡ Some rows → Takes left next true fields
    → (rest : Rows) × (next ≡ Some rest) × (rows ≡ fields ∷ rest)
row_read None next rows fields is takes = absurd cc
row_read (Some x) None rows fields is takes = absurd takes
row_read (Some x) (Some rest) rows fields is takes = let same : x ≡ rows = cc in (rest, refl, sym same ∙ takes)

-- If no row could be read, no row was left.
none_read : (left next : Option Rows) (rows : Rows) (fields : List (List ℕ)) → left ≡ Some rows → Takes left next false fields → rows ≡ []
none_read None next rows fields is takes = absurd cc
none_read (Some x) next rows fields is takes = let same : x ≡ rows = cc in sym same ∙ takes

split_next : (all left next : Option Rows) (done : Rows) (fields : List (List ℕ)) → IsReadUpTo all done left → Takes left next true fields
    → IfSome all (λ rows. (rest : Rows) × (next ≡ Some rest) × (rows ≡ done ++ (fields ∷ rest)))
split_next None left next done fields split takes = tt
split_next (Some all) left next done fields split takes =
    let r = row_read left next split.0 fields split.1 takes in
    (r.0, r.1, split.2 ∙ ap (λ x. done ++ x) r.2)

split_more : (all next : Option Rows) (done : Rows) (fields : List (List ℕ)) → IfSome all (λ rows. (rest : Rows) × (next ≡ Some rest) × (rows ≡ done ++ (fields ∷ rest)))
    → IsReadUpTo all (done ++ (fields ∷ [])) next
split_more None next done fields split = tt
split_more (Some all) next done fields split = (split.0, split.1, split.2 ∙ sym (append_assoc done (fields ∷ []) split.0))

split_whole : (all left next : Option Rows) (done : Rows) (fields : List (List ℕ)) → IsReadUpTo all done left → Takes left next false fields
    → IfSome all (λ rows. rows ≡ done)
split_whole None left next done fields split takes = tt
split_whole (Some all) left next done fields split takes =
    split.2 ∙ ap (λ x. done ++ x) (none_read left next split.0 fields split.1 takes) ∙ append-nil done

split_at_start : (all : Option Rows) → IsReadUpTo all [] all
split_at_start None = tt
split_at_start (Some all) = (all, refl, refl)

-- the rows that are left of a stream, or no rows if they aren't known
rest_of : Option Rows → Rows
rest_of None = []
rest_of (Some rows) = rows

split_rest : (all next : Option Rows) (done : Rows) (fields : List (List ℕ)) → IfSome all (λ rows. (rest : Rows) × (next ≡ Some rest) × (rows ≡ done ++ (fields ∷ rest)))
    → IfSome all (λ rows. (rows ≡ done ++ (fields ∷ rest_of next)) × (next ≡ Some (rest_of next)))
unfolding rest_of
split_rest None next done fields split = tt
split_rest (Some all) next done fields split = rw split.1 (split.2, refl)

split_here : (all left : Option Rows) (done : Rows) → IsReadUpTo all done left → IfSome all (λ rows. rows ≡ done ++ rest_of left)
unfolding rest_of
split_here None left done split = tt
split_here (Some all) left done split = rw split.1 split.2

first_of : (all next : Option Rows) (done : Rows) (fields : List (List ℕ)) → IfSome all (λ rows. (rows ≡ done ++ (fields ∷ rest_of next)) × (next ≡ Some (rest_of next)))
    → IfSome all (λ rows. rows ≡ done ++ (fields ∷ rest_of next))
first_of None next done fields split = tt
first_of (Some all) next done fields split = split.0

module _ {S : Type 0} (answers : AnswersOf S) where
  pub none_answered : (place : ℕ) (s : S) → AreAnswered answers place s [] [] s
  unfolding AreAnswered
  none_answered place s = (refl, refl)

  answered_more : (place : ℕ) (s t u : S) (done : Rows) (fields : List (List ℕ)) (lines line : List ℕ) → AreAnswered answers place s done lines t
      → answers (place + length done) t fields line u → AreAnswered answers place s (done ++ (fields ∷ [])) (lines ++ line) u
  unfolding AreAnswered
  answered_more place s t u [] fields lines line before step =
      let n : place + 0 ≡ place = omega arith in
      (line, u, [], rw (n, before.1) at step, ap (λ o. o ++ line) before.0 ∙ sym (append-nil line), (refl, refl))
  answered_more place s t u (row ∷ done) fields lines line before step =
      let n : place + suc (length done) ≡ suc place + length done = omega arith in (
        before.0,
        before.1,
        before.2 ++ line,
        before.3,
        ap (λ o. o ++ line) before.4 ∙ append_assoc before.0 before.2 line,
        answered_more (suc place) before.1 t u done fields before.2 line before.5 (rw n at step),
      )

  pub begins : (all : Option (List (List (List ℕ)))) (s : S) (old : Option (List ℕ)) (bytes : ℕ) → bytes ≡ 0 → IsGoing answers all all s s old old 0 bytes
  begins all s old bytes none = record {
    done = [];
    lines = [];
    count = refl;
    split = split_at_start all;
    answered = none_answered 1 s;
    written = Appends-nil old;
    size = sym none;
  }

  module _ (all left next : Option (List (List (List ℕ)))) (s t : S) (old mid : Option (List ℕ)) (read bytes : ℕ) (fields : List (List ℕ)) (going : IsGoing answers all left s t old mid read bytes) where
    -- If one more row is read and answered, and its line is written, `IsGoing` holds for one more
    -- row.
    pub steps : (u : S) (new : Option (List ℕ)) (line : List ℕ) (after : ℕ) → Takes left next true fields → answers (read + 1) t fields line u → Appends mid new line
        → after ≡ bytes + length line → IsGoing answers all next s u old new (read + 1) after
    steps u new line after takes answered written size =
        let place : read + 1 ≡ 1 + length going.done = omega (arith, going.count) in
        record {
          done = going.done ++ (fields ∷ []);
          lines = going.lines ++ line;
          count = length-append going.done (fields ∷ []) ∙ ap (λ n. n + 1) going.count;
          split = split_more all next going.done fields (split_next all left next going.done fields going.split takes);
          answered = answered_more 1 s t u going.done fields going.lines line going.answered (rw place at answered);
          written = Appends-trans old mid new going.lines line going.written written;
          size = omega (arith, length-append going.lines line, going.size, size);
        }

    -- If no row is left, all rows of the stream are answered.
    pub ends : (limit : ℕ) → read ≤ limit → Takes left next false fields → AreFirstRowsAnswered answers limit bytes all s t old mid
    ends limit few takes = record {
      whole = record {
        done = going.done;
        lines = going.lines;
        whole = split_whole all left next going.done fields going.split takes;
        answered = going.answered;
        written = going.written;
      };
      few = omega (arith, going.count, few);
      size = going.size;
    }

    between : (limit : ℕ) → read ≤ limit → StopsAfterRows answers limit bytes all s t old mid
    between limit few = record {
      between = record {
        done = going.done;
        rest = rest_of left;
        lines = going.lines;
        split = split_here all left going.done going.split;
        answered = going.answered;
        written = going.written;
      };
      few = omega (arith, going.count, few);
      size = going.size;
    }

    module _ (fails : FailsOf S) (limit : ℕ) (flush : Bool) where
      -- If a row can't be read, the stream stops between two rows.
      pub stops_at_read : (why : RecordError) (error : StreamError) (after : Option (List (List (List ℕ)))) (failed : Bool) → failed ≡ true → read ≤ limit
          → error ≡ stream_fault_of stream_error.Memory stream_error.Read why → HasStoppedAfter answers fails limit flush bytes error all after failed s t old mid
      stops_at_read fault.Memory error after failed is few e = rw e (inl (is, between limit few))
      stops_at_read fault.Device error after failed is few e = rw e (is, between limit few)

      -- If a row was read, and its answer stops as `IsRowStoppedAfter` defines, the stream stops
      -- while this row is answered.
      stops_at_row : (u : S) (new : Option (List ℕ)) (error : StreamError) (after : ℕ) → read < limit → Takes left next true fields
          → IsRowStoppedAfter answers fails flush bytes after error (read + 1) fields t u mid new → StopsInRowAfter answers fails limit flush after error all next s u old new
      stops_at_row u new error after few takes stops =
          let place : read + 1 ≡ suc (length going.done) = omega (arith, going.count) in
          let before : bytes ≡ length going.lines = sym going.size in
          let here : IsRowStoppedAfter answers fails flush (length going.lines) after error (suc (length going.done)) fields t u mid new = rw (place, before) at stops in
          record {
            done = going.done;
            fields = fields;
            rest = rest_of next;
            lines = going.lines;
            before = t;
            mid = mid;
            split = split_rest all next going.done fields (split_next all left next going.done fields going.split takes);
            answered = going.answered;
            written = going.written;
            stops = (omega (arith, going.count, few), here);
          }

      stops_in_row : (u : S) (new : Option (List ℕ)) (failed : Bool) (error : StreamError) (after : ℕ) → read < limit → Takes left next true fields
          → IsRowStoppedAfter answers fails flush bytes after error (read + 1) fields t u mid new → HasStoppedAfter answers fails limit flush after error all next failed s u old new
      stops_in_row u new failed stream_error.Memory after few takes stops = inr (stops_at_row u new stream_error.Memory after few takes stops)
      stops_in_row u new failed stream_error.Read after few takes stops = absurd stops
      stops_in_row u new failed stream_error.TooManyRows after few takes stops = absurd stops
      stops_in_row u new failed error after few takes stops = stops_at_row u new error after few takes stops

      -- If `limit` rows are answered, and one more row is read, the stream stops with
      -- `TooManyRows`.
      pub too_many : (failed : Bool) → read ≡ limit → Takes left next true fields → HasStoppedAfter answers fails limit flush bytes stream_error.TooManyRows all next failed s t old mid
      too_many failed most takes = record {
        more = record {
          done = going.done;
          fields = fields;
          rest = rest_of next;
          lines = going.lines;
          count = going.count ∙ most;
          split = first_of all next going.done fields (split_rest all next going.done fields (split_next all left next going.done fields going.split takes));
          answered = going.answered;
          written = going.written;
        };
        size = going.size;
      }

    -- If a row was read, and its answer stops as `IsRowStop` defines, the stream stops while this
    -- row is answered.
    pub stops_with : {F : Type 0} (faults : F → FailsOf S) (limit : ℕ) (flush : Bool) (u : S) (new : Option (List ℕ)) (failed : Bool) (why : StreamStop F) (after : ℕ) → read < limit → Takes left next true fields
        → IsRowStop answers faults flush bytes after why (read + 1) fields t u mid new → IsStoppedAfter answers faults limit flush after why all next failed s u old new
    stops_with faults limit flush u new failed (stop.Stream error) after few takes stops = stops_in_row NeverFails limit flush u new failed error after few takes stops
    stops_with faults limit flush u new failed (stop.Answer fault) after few takes stops = stops_at_row (faults fault) limit flush u new stream_error.Memory after few takes stops

-- ---- a stream that is limited only by the count of its rows

abbrev StopsOf : Type 0 → Type 1
StopsOf S = List (List (List ℕ)) → List ℕ → List (List ℕ) → S → Option (List ℕ) → Type 0

-- A stream that stops in one way also stops in each way that follows from it.
StopsAtRow-weaker : {S : Type 0} {One Other : StopsOf S} (answers : AnswersOf S) (all left : Option (List (List (List ℕ)))) (s : S) (old : Option (List ℕ)) → StopsAtRow answers One all left s old
    → ((done : Rows) (lines : List ℕ) (fields : List (List ℕ)) (before : S) (mid : Option (List ℕ)) → One done lines fields before mid → Other done lines fields before mid)
    → StopsAtRow answers Other all left s old
StopsAtRow-weaker answers all left s old a follows = record {
  done = a.done;
  fields = a.fields;
  rest = a.rest;
  lines = a.lines;
  before = a.before;
  mid = a.mid;
  split = a.split;
  answered = a.answered;
  written = a.written;
  stops = follows a.done a.lines a.fields a.before a.mid a.stops;
}

module _ {S : Type 0} (answers : AnswersOf S) (fails : FailsOf S) (bytes : ℕ) (all left : Option (List (List (List ℕ)))) (failed : Bool) (s t : S) (old new : Option (List ℕ)) where
  row_stopped : (flush : Bool) (before after : ℕ) (why : StreamError) (place : ℕ) (fields : List (List ℕ)) (b : S) (mid : Option (List ℕ))
      → IsRowStoppedAfter answers fails flush before after why place fields b t mid new → IsRowStopped answers fails why place fields b t mid new
  row_stopped flush before after stream_error.Memory place fields b mid a = (a.0, a.1)
  row_stopped flush before after stream_error.Write place fields b mid a = (a.0, a.2, (a.1, a.3, a.4))
  row_stopped flush before after stream_error.Flush place fields b mid a = (a.0, a.1, a.3)
  row_stopped flush before after other place fields b mid a = absurd a

  in_row : (flush : Bool) (limit : ℕ) (why : StreamError) → StopsInRowAfter answers fails limit flush bytes why all left s t old new → StopsInRow answers fails why all left s t old new
  in_row flush limit why a =
      StopsAtRow-weaker answers all left s old a (λ done lines fields before mid stops. row_stopped flush (length lines) bytes why (suc (length done)) fields before mid stops.1)

  stopped : (flush : Bool) (why : StreamError) → HasStoppedAfter answers fails MOST_STREAM_ROWS flush bytes why all left failed s t old new
      → HasStopped answers fails why all left failed s t old new
  stopped flush stream_error.Memory (inl a) = inl (a.0, a.1.between)
  stopped flush stream_error.Memory (inr a) = inr (in_row flush MOST_STREAM_ROWS stream_error.Memory a)
  stopped flush stream_error.Read a = (a.0, a.1.between)
  stopped flush stream_error.TooManyRows a = a.more
  stopped flush why a = in_row flush MOST_STREAM_ROWS why a

  pub all_answered : {T E : Type 0} (r : Result T E) (limit : ℕ) → OnOk r (AreFirstRowsAnswered answers limit bytes all s t old new) → OnOk r (AreAllAnswered answers all s t old new)
  all_answered (Ok x) limit a = a.whole
  all_answered (Err e) limit a = tt

pub all_stopped : {S F T : Type 0} (answers : AnswersOf S) (faults : F → FailsOf S) (bytes : ℕ) (all left : Option (List (List (List ℕ)))) (failed : Bool) (s t : S) (old new : Option (List ℕ)) (r : Result T (StreamStop F)) (flush : Bool)
    → IfErr r (λ why. IsStoppedAfter answers faults MOST_STREAM_ROWS flush bytes why all left failed s t old new)
    → IfErr r (λ why. IsStreamStopped answers faults why all left failed s t old new)
all_stopped answers faults bytes all left failed s t old new (Ok x) flush a = tt
all_stopped answers faults bytes all left failed s t old new (Err (stop.Stream why)) flush a = stopped answers NeverFails bytes all left failed s t old new flush why a
all_stopped answers faults bytes all left failed s t old new (Err (stop.Answer fault)) flush a = in_row answers (faults fault) bytes all left failed s t old new flush MOST_STREAM_ROWS stream_error.Memory a

-- ---- a stream whose answers can only fail because memory is refused

module _ {S : Type 0} (answers : AnswersOf S) (fails : FailsOf S) (all left : Option (List (List (List ℕ)))) (failed : Bool) (s t : S) (old new : Option (List ℕ)) where
  -- If the state after a fault doesn't depend on the fault, each fault stops the stream as refused
  -- memory does.
  pub stopped_of : {F : Type 0} (why : StreamStop F) → IsStreamStopped answers (λ fault. fails) why all left failed s t old new → HasStopped answers fails (stream_error_of why) all left failed s t old new
  stopped_of (stop.Answer fault) a = inr a
  stopped_of (stop.Stream stream_error.Memory) (inl a) = inl a
  stopped_of (stop.Stream stream_error.Memory) (inr a) = absurd a.stops.0
  stopped_of (stop.Stream stream_error.Read) a = a
  stopped_of (stop.Stream stream_error.TooManyRows) a = a
  stopped_of (stop.Stream why) a = StopsAtRow-weaker answers all left s old a (λ done lines fields before mid stops. stops)

-- ---- a line

line_cut : (size : ℕ) (flush : Bool) (why : StreamError) (line : List ℕ) (old new : Option (List ℕ)) → IsLineStoppedAfter flush size why line old new → IsLineStopped why line old new
line_cut size flush stream_error.Write line old new a = (size, a.0, a.1)
line_cut size flush stream_error.Flush line old new a = a.2
line_cut size flush other line old new a = absurd a

pub line_stopped : {T : Type 0} (r : Result T StreamError) (size : ℕ) (flush : Bool) (line : List ℕ) (old new : Option (List ℕ)) → IfErr r (λ why. IsLineStoppedAfter flush size why line old new)
    → IfErr r (λ why. IsLineStopped why line old new)
line_stopped (Ok x) size flush line old new a = tt
line_stopped (Err why) size flush line old new a = line_cut size flush why line old new a
