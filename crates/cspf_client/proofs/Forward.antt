-- A client goes forward: what it knew and had seen before is a prefix of what it knows and has seen
-- later (`HasGoneForward`).
use Rattle.std.proofs.Common.{◌≡◌, ℕ, suc, Bool, List, [], ◌∷◌, length, Option, Result, Ok, Err, OnOk, IfErr, inl, inr, sym, ap, subst}
use Rattle.cspf_publish.specs.JournalSteps.{KnownSteps}
use Rattle.cspf_publish.specs.KnownBatches.{KnownBatches, AreFirstOf}
use Rattle.cspf_publish.specs.declared.errors.AskError.{AskError}
use Rattle.cspf_questions.specs.QuestionRows.{read_fields}
use Rattle.cspf_questions.specs.declared.kinds.QuestionKinds.{QuestionKinds}
use Rattle.cspf_questions.specs.declared.reading.ReadFields.{ReadFields}
use Rattle.cspf_questions.specs.declared.reading.ReadFields.TheVariants as reading
use Rattle.cspf_rows.specs.declared.row.Row.{Row}
use Rattle.cspf_rows.specs.declared.row.Row.TheVariants as row
use Rattle.cspf_rows.specs.declared.row_error.RowError.{RowError}
use Rattle.cspf_rows.specs.declared.row_error.RowError.TheVariants as row_error
use Rattle.cspf_stream.specs.RowAnswers.{AreAnswered, AreAllAnswered}
use Rattle.cspf_stream.specs.StreamStops.{FailsOf, NeverFails, StopsBetween, StopsInRow, IsRowStopped, IsStreamStopped}
use Rattle.cspf_stream.specs.declared.error.StreamError.{StreamError}
use Rattle.cspf_stream.specs.declared.error.StreamError.TheVariants as stream_error
use Rattle.cspf_stream.specs.declared.error.StreamStop.{StreamStop}
use Rattle.cspf_stream.specs.declared.error.StreamStop.TheVariants as stop
use Rattle.cspf_client.specs.declared.error.RowFault.{RowFault}
use Rattle.cspf_client.specs.declared.error.RowFault.TheVariants as row_fault
use Rattle.cspf_client.specs.ClientRows.{IsRefusedRow, IsClientRowAnswered, IsClientRowUnanswered, IsReadAnswered, IsReadUnanswered, IsClientAnswered, IsClientUnanswered}
use Rattle.cspf_client.specs.ClientRuns.{ClientsGoForward, IsClientStopped}
use Rattle.cspf_client.specs.declared.error.ClientError.{ClientError}
use Rattle.cspf_client.specs.SessionStates.{SessionState, AreFirstSteps, HasGoneForward}
use Rattle.cspf_client.proofs.Prefixes.{HasGoneForward-self, HasGoneForward-trans, HasGoneForward-count}

-- a client that still knows the same batches and has seen the same steps has gone forward
forward_same : (s t : SessionState) → t.client ≡ s.client → t.known ≡ s.known → t.steps ≡ s.steps → HasGoneForward s t
forward_same s t client known steps =
    let self = HasGoneForward-self s in record {
      client = client;
      known = subst (λ (k : KnownBatches). AreFirstOf k s.known) (sym known) self.known;
      steps = subst (λ (k : KnownSteps). AreFirstSteps k s.steps) (sym steps) self.steps;
    }

forward_equal : (s t : SessionState) → t ≡ s → HasGoneForward s t
forward_equal s t is = forward_same s t (ap (λ (x : SessionState). x.client) is) (ap (λ (x : SessionState). x.known) is) (ap (λ (x : SessionState). x.steps) is)

forward_refused : (place : ℕ) (why : RowError) (s t : SessionState) (line : List ℕ) → IsRefusedRow place why s line t → HasGoneForward s t
forward_refused place why s t line refused =
    forward_same s t (ap (λ (x : SessionState). x.client) refused.after) (ap (λ (x : SessionState). x.known) refused.after) (ap (λ (x : SessionState). x.steps) refused.after)

pub forward_row : (place : ℕ) (s t : SessionState) (r : Result Row RowError) (line : List ℕ) → IsClientRowAnswered place s r line t → HasGoneForward s t
forward_row place s t (Err why) line a = forward_refused place why s t line a
forward_row place s t (Ok (row.Ask q)) line a = HasGoneForward-count place s t a.reads
forward_row place s t (Ok other) line a = forward_refused place row_error.Kind s t line a

pub forward_read : (place : ℕ) (s t : SessionState) (r : ReadFields) (line : List ℕ) → IsReadAnswered place s r line t → HasGoneForward s t
forward_read place s t (reading.Row r) line a = forward_row place s t r line a
forward_read place s t (reading.Question question) line a = HasGoneForward-count place s t a.reads
forward_read place s t (reading.Refused why) line a =
    forward_same s t (ap (λ (x : SessionState). x.client) a.after) (ap (λ (x : SessionState). x.known) a.after) (ap (λ (x : SessionState). x.steps) a.after)

forward_unanswered : (fault : AskError) (place : ℕ) (s t : SessionState) (r : Result Row RowError) → IsClientRowUnanswered fault place s r t → HasGoneForward s t
forward_unanswered fault place s t (Ok (row.Ask q)) a = HasGoneForward-count place s t a.reads
forward_unanswered fault place s t other a = forward_equal s t a.1

forward_unread : (fault : RowFault) (place : ℕ) (s t : SessionState) (r : ReadFields) → IsReadUnanswered fault place s r t → HasGoneForward s t
forward_unread (row_fault.Ask why) place s t (reading.Row r) a = forward_unanswered why place s t r a
forward_unread (row_fault.Ask why) place s t (reading.Question question) a = HasGoneForward-count place s t a.reads
forward_unread (row_fault.Ask why) place s t (reading.Refused refused) a = forward_equal s t a.1
forward_unread row_fault.Undecided place s t (reading.Row r) a = absurd a
forward_unread row_fault.Undecided place s t (reading.Question question) a = HasGoneForward-count place s t a.1
forward_unread row_fault.Undecided place s t (reading.Refused refused) a = absurd a

pub forward : ClientsGoForward
unfolding AreAnswered
forward kinds place s t [] lines a = forward_equal s t a.1
forward kinds place s t (fields ∷ rows) lines a =
    HasGoneForward-trans s a.1 t (forward_read place s a.1 (read_fields kinds fields) a.0 a.3) (forward kinds (suc place) a.1 t rows a.2 a.5)

abbrev Rows : Type 0
Rows = List (List (List ℕ))

-- A client goes forward even if the answer to a row fails in this way.
abbrev pub FailsForward : FailsOf SessionState → Type 0
FailsForward fails = (place : ℕ) (s t : SessionState) (fields : List (List ℕ)) → fails place s fields t → HasGoneForward s t

pub never_forward : FailsForward NeverFails
never_forward place s t fields a = absurd a

pub unanswered_forward : (kinds : QuestionKinds) (fault : RowFault) → FailsForward (IsClientUnanswered kinds fault)
unanswered_forward kinds fault place s t fields (inl a) = forward_unread fault place s t (read_fields kinds fields) a
unanswered_forward kinds (row_fault.Ask why) place s t fields (inr a) = forward_equal s t a.1
unanswered_forward kinds row_fault.Undecided place s t fields (inr a) = absurd a

-- a client goes forward even at a row that stops its stream
pub forward_row_stopped : (kinds : QuestionKinds) (fails : FailsOf SessionState) → FailsForward fails → (why : StreamError) (place : ℕ) (fields : List (List ℕ)) (s t : SessionState) (old new : Option (List ℕ))
    → IsRowStopped (IsClientAnswered kinds) fails why place fields s t old new → HasGoneForward s t
forward_row_stopped kinds fails known stream_error.Memory place fields s t old new a = known place s t fields a.0
forward_row_stopped kinds fails known stream_error.Read place fields s t old new a = absurd a
forward_row_stopped kinds fails known stream_error.TooManyRows place fields s t old new a = absurd a
forward_row_stopped kinds fails known why place fields s t old new a = forward_read place s t (read_fields kinds fields) a.0 a.1

module _ (kinds : QuestionKinds) (all left : Option Rows) (failed : Bool) (s t : SessionState) (old new : Option (List ℕ)) where
  between : StopsBetween (IsClientAnswered kinds) all s t old new → HasGoneForward s t
  between a = forward kinds 1 s t a.done a.lines a.answered

  in_row : (fails : FailsOf SessionState) → FailsForward fails → (why : StreamError) → StopsInRow (IsClientAnswered kinds) fails why all left s t old new → HasGoneForward s t
  in_row fails known why a =
      HasGoneForward-trans s a.before t (forward kinds 1 s a.before a.done a.lines a.answered)
      (forward_row_stopped kinds fails known why (suc (length a.done)) a.fields a.before t a.mid new a.stops)

  forward_stopped : (why : StreamStop RowFault) → IsStreamStopped (IsClientAnswered kinds) (IsClientUnanswered kinds) why all left failed s t old new → HasGoneForward s t
  forward_stopped (stop.Stream stream_error.Memory) (inl a) = between a.1
  forward_stopped (stop.Stream stream_error.Memory) (inr a) = absurd a.stops.0
  forward_stopped (stop.Stream stream_error.Read) a = between a.1
  forward_stopped (stop.Stream stream_error.TooManyRows) a = forward kinds 1 s t a.done a.lines a.answered
  forward_stopped (stop.Stream why) a = in_row NeverFails never_forward why a
  forward_stopped (stop.Answer fault) a = in_row (IsClientUnanswered kinds fault) (unanswered_forward kinds fault) stream_error.Memory a

-- a client goes forward in a run over its stream, whether the stream ends or stops
pub forward_stream : (kinds : QuestionKinds) (all : Option Rows) (s t : SessionState) (old new : Option (List ℕ)) (ended : Result (Unit {0}) ClientError)
    → OnOk ended (AreAllAnswered (IsClientAnswered kinds) all s t old new) → IfErr ended (λ why. IsClientStopped kinds why all s t old new) → HasGoneForward s t
forward_stream kinds all s t old new (Ok done) whole stopped = forward kinds 1 s t whole.done whole.lines whole.answered
forward_stream kinds all s t old new (Err why) whole stopped = forward_stopped kinds all stopped.left stopped.failed s t old new stopped.stop stopped.stopped
