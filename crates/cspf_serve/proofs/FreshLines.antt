-- Each reply to a client has at least the version that was published before the request's row was
-- read. This is seen from one list of the journal's steps: batches recorded, batches counted as
-- published, and clients' readings of that count.
use Rattle.std.proofs.Common.{◌≡◌, ℕ, suc, ◌+◌, ◌-◌, ◌^◌, ◌<◌, min, All, ◌≤◌, ◌⊎◌, Bool, List, [], ◌∷◌, ◌++◌, length, length-append, append_assoc, append-nil, codes, Option, Some, IfSome, Result, Ok, Err, MatchResult, inl, inr, refl, sym, ap, subst, ◌∙◌, arith, ⊎_elim, rules}
use Rattle.std.proofs.lemmas.Grind.{common_steps}
use Rattle.cspf_model.specs.declared.request.Request.{Request}
use Rattle.cspf_model.specs.Best.{Answer}
use Rattle.cspf_model.specs.Numbered.{NumberedChanges}
use Rattle.cspf_ero.specs.ReplyHead.{BeginsWithHead, HasOneHead}
use Rattle.cspf_ero.specs.ReplyLine.{IsReply}
use Rattle.cspf_ero.specs.declared.head.Head.{Head}
use Rattle.cspf_questions.specs.declared.kinds.QuestionKinds.{QuestionKinds}
use Rattle.cspf_questions.specs.declared.reading.ReadFields.{ReadFields}
use Rattle.cspf_questions.specs.declared.reading.ReadFields.TheVariants as reading
use Rattle.cspf_questions.specs.QuestionRows.{read_fields}
use Rattle.cspf_model.specs.Changes.{database_after}
use Rattle.cspf_rows.specs.declared.row.Row.TheVariants as row
use Rattle.cspf_journal.specs.declared.log_step.LogStep.{LogStep}
use Rattle.cspf_journal.specs.declared.log_step.LogStep.TheVariants.{Recorded, Published, Read}
use Rattle.cspf_journal.proofs.JournalSteps.{found_among}
use Rattle.cspf_journal.proofs.Prefixes.{length-prefix}
use Rattle.cspf_publish.specs.JournalSteps.{KnownSteps, AreOrderedFrom, count_of}
use Rattle.cspf_publish.specs.KnownBatches.{KnownBatches}
use Rattle.cspf_client.specs.declared.error.RowFault.{RowFault}
use Rattle.cspf_publish.specs.Histories.{BeginsWith}
use Rattle.cspf_stream.specs.RowAnswers.{AreAnswered, AreAllAnswered}
use Rattle.cspf_stream.specs.StreamStops.{FailsOf, NeverFails, HasMoreThan, StopsBetween, StopsInRow, IsRowStopped, HasStopped, IsStreamStopped, stream_error_of}
use Rattle.cspf_stream.specs.declared.error.StreamError.{StreamError}
use Rattle.cspf_stream.specs.declared.error.StreamStop.{StreamStop}
use Rattle.cspf_client.specs.ClientRows.{ReadsCount, IsRequestAnswered, IsReadAnswered, IsClientAnswered, IsClientUnanswered}
use Rattle.cspf_client.specs.ClientRuns.{IsClientStopped}
use Rattle.cspf_client.specs.SessionStates.{SessionState, AreFirstSteps, HasGoneForward}
use Rattle.cspf_client.specs.Sessions.{ReopensOf, ClientSession, CameBefore, refused_in}
use Rattle.cspf_rows.specs.Records.{rows_of}
use Rattle.std.specs.Option.{option_map}
use Rattle.std.proofs.lemmas.List.Elements.{All-head, All-weaker}
use mathlib.Core.List.{IsPrefix}
use Rattle.cspf_stream.specs.declared.limits.TheConstants.{MOST_STREAM_ROWS}
use Rattle.cspf_stream.specs.declared.error.StreamError.TheVariants as stream_error
use Rattle.cspf_stream.specs.declared.error.StreamStop.TheVariants as stop
use Rattle.cspf_client.specs.ServingStates.{ServingState, unread_rows}
use Rattle.cspf_client.specs.declared.client.Client.{Client}
use Rattle.cspf_client.specs.declared.client.ServedClient.{ServedClient}
use Rattle.cspf_client.specs.declared.error.ClientError.{ClientError}
use Rattle.cspf_client.proofs.Forward.{forward, forward_read, FailsForward, never_forward, unanswered_forward, forward_row_stopped}
use Rattle.cspf_client.proofs.Prefixes.{AreFirstSteps-trans, IsPrefix-trans}
use Rattle.cspf_serve.specs.NumberedPairs.{AreNumberedPairs}
use Rattle.cspf_serve.specs.ServedRun.{AreServedFrom, IsServedClient, IsServedSession, IsServedSeat}
use Rattle.cspf_serve.specs.ServedLaws.{SessionSteps, IsReadBefore, IsFreshLine, IsAnsweredFresh, HasFreshLines, HasFreshSessions, ServedRepliesAreFresh, SeatsHaveOneSession, steps_of_session, NoReplyIsBehind, read_behind_a_batch}
use Rattle.cspf_serve.proofs.Pairs.{numbered_weaker}

abbrev Rows : Type 0
Rows = List (List (List ℕ))

-- nothing is stated about a row that gets no answer
abbrev Nothing : ℕ → Unit {0} → List (List ℕ) → Unit {0} → Type 0
Nothing place s fields t = Unit {0}

-- The client with the number `number` is in the state `s`, and has seen the steps that it had seen
-- before the session.
record IsFrom (session : SessionSteps) (number : ℕ) (s : SessionState) : Type 0 where
  client : s.client ≡ number
  begun : IsPrefix session.before s.steps.steps

-- The steps of the client in the state `t` are among those that it has seen after the session, and
-- these are among all steps.
record IsUpTo (session : SessionSteps) (all : KnownSteps) (t : SessionState) : Type 0 where
  first : AreFirstSteps all t.steps
  ended : IsPrefix t.steps.steps session.after

from_later : (session : SessionSteps) (number : ℕ) (s t : SessionState) → HasGoneForward s t → IsFrom session number s → IsFrom session number t
from_later session number s t forward from = record {
  client = forward.client ∙ from.client;
  begun = IsPrefix-trans session.before s.steps.steps t.steps.steps from.begun forward.steps.begins;
}

up_to_earlier : (session : SessionSteps) (all : KnownSteps) (s t : SessionState) → HasGoneForward s t → IsUpTo session all t → IsUpTo session all s
up_to_earlier session all s t forward up = record {
  first = AreFirstSteps-trans s.steps t.steps all forward.steps up.first;
  ended = IsPrefix-trans s.steps.steps t.steps.steps session.after forward.steps.begins up.ended;
}

module _ (kinds : QuestionKinds) (all : KnownSteps) (session : SessionSteps) (number : ℕ) (order : AreOrderedFrom 0 0 all.steps) where
  -- Suppose that a client reads the count of published batches before it answers a row. This
  -- reading is one of the journal's steps, and one of the session's steps. After the row, the client
  -- knows at least as many batches as the steps before the reading count as published.
  read_of : (place : ℕ) (s t : SessionState) → IsFrom session number s → IsUpTo session all t → ReadsCount place s t → IsReadBefore all.steps session number place (length t.known.batches)
  read_of place s t from up reads =
      let others = reads.caught_up.read.0 in
      let before : List LogStep = s.steps.steps ++ others in
      let after : List LogStep = up.first.begins.0 in
      let is : t.steps.steps ≡ before ++ Read number place reads.count ∷ [] = subst (λ (n : ℕ). t.steps.steps ≡ before ++ Read n place reads.count ∷ []) from.client reads.caught_up.read.1 in
      let whole : all.steps ≡ before ++ Read number place reads.count ∷ after =
      sym up.first.begins.1 ∙ (ap (λ (l : List LogStep). l ++ after) is ∙ append_assoc before (Read number place reads.count ∷ []) after) in
      let found : reads.count ≡ count_of before = found_among before after number place reads.count (subst (AreOrderedFrom 0 0) whole order) in
      record {
        before = before;
        count = reads.count;
        after = after;
        reading = whole;
        begun = IsPrefix-trans session.before s.steps.steps before from.begun (others, refl);
        ended = subst (λ (l : List LogStep). IsPrefix l session.after) is up.ended;
        fresh = omega (arith, found, reads.caught_up.known, ap length reads.later.begins.1, length-append reads.mid.batches reads.later.begins.0);
      }

  line_of : (place : ℕ) (s t : SessionState) (r : ReadFields) (line : List ℕ) → IsFrom session number s → IsUpTo session all t → IsReadAnswered place s r line t
      → IsFreshLine all.steps session number place r line
  line_of place s t (reading.Row (Ok (row.Ask q))) line from up a = record {
    version = length t.known.batches;
    answer = a.answer;
    reply = a.reply;
    read = read_of place s t from up a.reads;
  }
  line_of place s t (reading.Question question) line from up a = record {
    version = length t.known.batches;
    database = database_after t.known.batches;
    reply = a.reply;
    read = read_of place s t from up a.reads;
  }
  line_of place s t r line from up a = tt

  lines_of : (place : ℕ) (s t : SessionState) (rows : Rows) (lines : List ℕ) → IsFrom session number s → IsUpTo session all t → AreAnswered (IsClientAnswered kinds) place s rows lines t
      → AreAnswered (IsAnsweredFresh kinds all.steps session number) place tt rows lines tt
  unfolding AreAnswered
  lines_of place s t [] lines from up a = (a.0, refl)
  lines_of place s t (fields ∷ rows) lines from up a =
      let here : HasGoneForward s a.1 = forward_read place s a.1 (read_fields kinds fields) a.0 a.3 in
      let later : HasGoneForward a.1 t = forward kinds (suc place) a.1 t rows a.2 a.5 in (
        a.0,
        tt,
        a.2,
        line_of place s a.1 (read_fields kinds fields) a.0 from (up_to_earlier session all a.1 t later up) a.3,
        a.4,
        lines_of (suc place) a.1 t rows a.2 (from_later session number s a.1 here from) up a.5,
      )

  all_lines : (rows : Option Rows) (s t : SessionState) (old new : Option (List ℕ)) → IsFrom session number s → IsUpTo session all t → AreAllAnswered (IsClientAnswered kinds) rows s t old new
      → AreAllAnswered (IsAnsweredFresh kinds all.steps session number) rows tt tt old new
  all_lines rows s t old new from up a = record {
    done = a.done;
    lines = a.lines;
    whole = a.whole;
    answered = lines_of 1 s t a.done a.lines from up a.answered;
    written = a.written;
  }

  row_stopped : (fails : FailsOf SessionState) (why : StreamError) (place : ℕ) (fields : List (List ℕ)) (s t : SessionState) (old new : Option (List ℕ)) → IsFrom session number s → IsUpTo session all t
      → IsRowStopped (IsClientAnswered kinds) fails why place fields s t old new → IsRowStopped (IsAnsweredFresh kinds all.steps session number) Nothing why place fields tt tt old new
  row_stopped fails why place fields s t old new from up a = search (rules, line_of)

  module _ (rows left : Option Rows) (failed : Bool) (s t : SessionState) (old new : Option (List ℕ)) (from : IsFrom session number s) (up : IsUpTo session all t) where
    between : StopsBetween (IsClientAnswered kinds) rows s t old new → StopsBetween (IsAnsweredFresh kinds all.steps session number) rows tt tt old new
    between a = record {
      done = a.done;
      rest = a.rest;
      lines = a.lines;
      split = a.split;
      answered = lines_of 1 s t a.done a.lines from up a.answered;
      written = a.written;
    }

    in_row : (fails : FailsOf SessionState) → FailsForward fails → (why : StreamError) → StopsInRow (IsClientAnswered kinds) fails why rows left s t old new → StopsInRow (IsAnsweredFresh kinds all.steps session number) Nothing why rows left tt tt old new
    in_row fails known why a =
        let here : HasGoneForward s a.before = forward kinds 1 s a.before a.done a.lines a.answered in
        let later : HasGoneForward a.before t = forward_row_stopped kinds fails known why (suc (length a.done)) a.fields a.before t a.mid new a.stops in record {
          done = a.done;
          fields = a.fields;
          rest = a.rest;
          lines = a.lines;
          before = tt;
          mid = a.mid;
          split = a.split;
          answered = lines_of 1 s a.before a.done a.lines from (up_to_earlier session all a.before t later up) a.answered;
          written = a.written;
          stops = row_stopped fails why (suc (length a.done)) a.fields a.before t a.mid new (from_later session number s a.before here from) up a.stops;
        }

    more_than : (limit : ℕ) → HasMoreThan (IsClientAnswered kinds) limit rows s t old new → HasMoreThan (IsAnsweredFresh kinds all.steps session number) limit rows tt tt old new
    more_than limit a = record {
      done = a.done;
      fields = a.fields;
      rest = a.rest;
      lines = a.lines;
      count = a.count;
      split = a.split;
      answered = lines_of 1 s t a.done a.lines from up a.answered;
      written = a.written;
    }

    stopped : (why : StreamStop RowFault) → IsStreamStopped (IsClientAnswered kinds) (IsClientUnanswered kinds) why rows left failed s t old new
        → HasStopped (IsAnsweredFresh kinds all.steps session number) Nothing (stream_error_of why) rows left failed tt tt old new
    stopped (stop.Stream stream_error.Memory) (inl a) = inl (a.0, between a.1)
    stopped (stop.Stream stream_error.Memory) (inr a) = inr (in_row NeverFails never_forward stream_error.Memory a)
    stopped (stop.Stream stream_error.Read) a = (a.0, between a.1)
    stopped (stop.Stream stream_error.Write) a = in_row NeverFails never_forward stream_error.Write a
    stopped (stop.Stream stream_error.Flush) a = in_row NeverFails never_forward stream_error.Flush a
    stopped (stop.Stream stream_error.TooManyRows) a = more_than MOST_STREAM_ROWS a
    stopped (stop.Answer fault) a = inr (in_row (IsClientUnanswered kinds fault) (unanswered_forward kinds fault) stream_error.Memory a)

  -- All rows, or the rows before the stream stopped, are answered, and their lines are written. The
  -- lines are as `IsFreshLine` says.
  abbrev Lines : Option Rows → Option (List ℕ) → Option (List ℕ) → Type 0
  Lines rows old new =
      AreAllAnswered (IsAnsweredFresh kinds all.steps session number) rows tt tt old new
      ⊎ ((why : StreamError) × (left : Option Rows) × (failed : Bool) × HasStopped (IsAnsweredFresh kinds all.steps session number) Nothing why rows left failed tt tt old new)

  module _ {Q V : Type 0} (bytes : Q → Option (List ℕ)) (contents : V → Option (List ℕ)) where
    run_lines : (old new : ServingState Q V) → IsFrom session number old.state → IsUpTo session all new.state → (end : Result (Unit {0}) ClientError)
        → MatchResult end (λ done. AreAllAnswered (IsClientAnswered kinds) (unread_rows bytes old.requests) old.state new.state (contents old.replies) (contents new.replies)) (λ why. IsClientStopped kinds why (unread_rows bytes old.requests) old.state new.state (contents old.replies) (contents new.replies))
        → Lines (unread_rows bytes old.requests) (contents old.replies) (contents new.replies)
    run_lines old new from up (Ok done) run = inl (all_lines (unread_rows bytes old.requests) old.state new.state (contents old.replies) (contents new.replies) from up run)
    run_lines old new from up (Err why) run =
        inr (stream_error_of run.stop, run.left, run.failed, stopped (unread_rows bytes old.requests) run.left run.failed old.state new.state (contents old.replies) (contents new.replies) from up run.stop run.stopped)

-- the lines of each session are fresh
session_lines : {Q V : Type 0} (kinds : QuestionKinds) (bytes : Q → Option (List ℕ)) (contents : V → Option (List ℕ)) (known : KnownBatches) (all : KnownSteps) (number : ℕ) → AreOrderedFrom 0 0 all.steps
    → (s : ClientSession Q V) → IsServedSession kinds bytes contents known all number s → HasFreshLines kinds bytes contents all.steps number s
session_lines {Q} {V} kinds bytes contents known all number order s is =
    let session : SessionSteps = steps_of_session s in
    let from : IsFrom session number s.before.state = record { client = is.session.number_is; begun = ([], append-nil s.before.state.steps.steps) } in
    let up : IsUpTo session all s.after.state = record { first = is.first; ended = ([], append-nil s.after.state.steps.steps) } in
    let lines = run_lines kinds all session number order bytes contents s.before s.after from up s.after.end is.session.run in
    subst (λ (w : V). Lines kinds all session number order (option_map rows_of (bytes s.streams.requests)) (contents w) (contents s.after.replies)) is.session.empty
    (subst (λ (r : Option Q). Lines kinds all session number order (unread_rows bytes r) (contents s.before.replies) (contents s.after.replies)) is.session.requests lines)

-- The lines of each session of each client are fresh.
pub fresh_seats : {Q V : Type 0} (kinds : QuestionKinds) (bytes : Q → Option (List ℕ)) (contents : V → Option (List ℕ)) (reopens : ReopensOf Q V) (published : List NumberedChanges) (all : KnownSteps) → AreOrderedFrom 0 0 all.steps
    → (clients : List (Client Q V)) (served : List (ServedClient V)) → AreServedFrom kinds bytes contents reopens published all 1 clients served
    → AreNumberedPairs (HasFreshSessions kinds bytes contents reopens published all) 1 clients served
fresh_seats kinds bytes contents reopens published all order clients served are =
    numbered_weaker (IsServedSeat kinds bytes contents reopens published all) (HasFreshSessions kinds bytes contents reopens published all)
    (λ n c s is. record {
      seat = is;
      fresh =
          All-weaker (IsServedSession kinds bytes contents s.known all n) (HasFreshLines kinds bytes contents all.steps n)
          (session_lines kinds bytes contents s.known all n order) (is.last ∷ is.earlier) is.each;
    })
    1 clients served are

pub fresh_runs : (W J : Type 0) {Q V : Type 0} (reopens : ReopensOf Q V) → ServedRepliesAreFresh W J reopens
fresh_runs W J reopens kinds updates said recorded bytes contents writer journal clients served run =
    fresh_seats kinds bytes contents reopens run.state.run.accepted served.steps run.steps_of_run.journal.order clients served.clients.items run.clients_served

-- what the only session of a client is, if no session follows another
only : {Q V : Type 0} (reopens : ReopensOf Q V) → ((writer : V) (streams : Client Q V) → ¬ reopens writer (Ok streams)) → (first : ServingState Q V) (last : ClientSession Q V) (earlier : List (ClientSession Q V))
    → CameBefore reopens first last.streams last.before earlier → (last.before ≡ first) × (refused_in (last ∷ earlier) ≡ last.after.state.refused)
only reopens never first last [] turn = (turn, omega arith)
only reopens never first last (s ∷ earlier) turn = absurd (never s.after.replies last.streams turn.0.opened)

refused_once : (total sum last : ℕ) → total ≡ min sum (2 ^ 64 - 1) → sum ≡ last → last < 2 ^ 64 → total ≡ last
refused_once total sum last all is few = omega (arith, all, is, few)

pub one_session : {Q V : Type 0} (reopens : ReopensOf Q V) → SeatsHaveOneSession reopens
one_session {Q} {V} reopens never kinds bytes contents published all number client served is =
    let it = only reopens never is.first is.last is.earlier is.in_turn in
    let head = All-head (IsServedSession kinds bytes contents served.known all number) is.last is.earlier is.each in
    record {
      before = is.last.before;
      after = is.last.after;
      ready = head.session.ready;
      number_is = head.session.number_is;
      requests = ap (λ (c : ServingState Q V). c.requests) it.0 ∙ is.requests;
      empty = ap (λ (c : ServingState Q V). c.replies) it.0 ∙ is.empty;
      run = head.session.run;
      replies = is.replies;
      refused = refused_once served.refused (refused_in (is.last ∷ is.earlier)) is.last.after.state.refused is.refused it.1 head.session.few;
      steps = is.steps;
      known = is.known;
      first = subst (λ (k : KnownSteps). AreFirstSteps all k) (sym is.steps) head.first;
      source = ap (λ (k : KnownBatches). k.source) is.known ∙ head.source;
      end = is.end;
    }

-- if a stream has one row, the lines that answer the stream are the line of this row
one_row : (kinds : QuestionKinds) (s t : SessionState) (fields : List (List ℕ)) (lines : List ℕ) → AreAnswered (IsClientAnswered kinds) 1 s (fields ∷ []) lines t
    → (line : List ℕ) × IsClientAnswered kinds 1 s fields line t × (lines ≡ line)
unfolding AreAnswered
one_row kinds s t fields lines a =
    (a.0, subst (λ (n : SessionState). IsClientAnswered kinds 1 s fields a.0 n) (sym a.5.1) a.3, a.4 ∙ (ap (λ (m : List ℕ). a.0 ++ m) a.5.0 ∙ append-nil a.0))

-- the client reads the count of published batches after the batch `b` is counted, so the steps
-- before this reading count 1 batch
behind : (b : NumberedChanges) (before after : List LogStep) (count : ℕ) → read_behind_a_batch b ≡ before ++ Read 1 1 count ∷ after → count_of before ≡ 1
behind b [] after count is = absurd (cc is)
behind b (x ∷ []) after count is = absurd (cc is)
behind b (x ∷ y ∷ []) after count is =
    let first : x ≡ Recorded b = cc is in
    let next : y ≡ Published 1 = cc is in
    rw (first, next) refl
behind b (x ∷ y ∷ z ∷ []) after count is = absurd (cc is)
behind b (x ∷ y ∷ z ∷ w ∷ more) after count is = absurd (cc is)

head_of : (id version : ℕ) (answer : Answer) (line : List ℕ) → id < 2 ^ 64 → version < 2 ^ 32 → IsReply id version answer line → BeginsWithHead line (record { id = id; version = version })
head_of id version answer line below few reply = search (rules, append_assoc, codes)

pub not_behind : HasOneHead → NoReplyIsBehind
not_behind one kinds b all fields q client served answer steps rows asks below empty is ended reply =
    let Ended : Result (Unit {0}) ClientError → Type 0 = λ e. MatchResult e
    (λ done. AreAllAnswered (IsClientAnswered kinds) (unread_rows (λ bytes. Some bytes) is.before.requests) is.before.state is.after.state (Some is.before.replies) (Some is.after.replies))
    (λ why. IsClientStopped kinds why (unread_rows (λ bytes. Some bytes) is.before.requests) is.before.state is.after.state (Some is.before.replies) (Some is.after.replies)) in
    let end : (is.after.end ≡ Ok tt) × BeginsWith (b ∷ []) served.known.batches = elim is.end [
      | inl well ↦ (sym well.0 ∙ ended, well.1)
      | inr ahead ↦ absurd (cc (ahead.0, ended))
    ] in
    let run = subst Ended end.0 is.run in
    let done : run.done ≡ fields ∷ [] = sym (subst (λ (r : Option (List ℕ)). IfSome (unread_rows (λ bytes. Some bytes) r) (λ l. l ≡ run.done)) is.requests run.whole) ∙ rows in
    let row = one_row kinds is.before.state is.after.state fields run.lines (subst (λ (l : Rows). AreAnswered (IsClientAnswered kinds) 1 is.before.state l run.lines is.after.state) done run.answered) in
    let answered : IsRequestAnswered 1 q is.before.state row.0 is.after.state = subst (λ (r : ReadFields). IsReadAnswered 1 is.before.state r row.0 is.after.state) asks row.1 in
    let order : AreOrderedFrom 0 0 all.steps = subst (AreOrderedFrom 0 0) (sym steps) (refl, omega arith, (refl, tt)) in
    let first : AreFirstSteps all is.after.state.steps = subst (λ (k : KnownSteps). AreFirstSteps all k) is.steps is.first in
    let session : SessionSteps = record { before = is.before.state.steps.steps; after = is.after.state.steps.steps } in
    let from : IsFrom session 1 is.before.state = record { client = is.number_is; begun = ([], append-nil is.before.state.steps.steps) } in
    let up : IsUpTo session all is.after.state = record { first = first; ended = ([], append-nil is.after.state.steps.steps) } in
    let read = read_of kinds all session 1 order 1 is.before.state is.after.state from up answered.reads in
    let version : ℕ = length is.after.state.known.batches in
    let counted : count_of read.before ≡ 1 = behind b read.before read.after read.count (sym steps ∙ read.reading) in
    let few : version ≤ 1 = omega (arith, length-prefix (b ∷ []) served.known.batches end.1, ap (λ (k : KnownBatches). length k.batches) is.known) in
    let line : row.0 ≡ served.replies = sym row.2 ∙ (sym (run.written ∙ (ap (λ (l : List ℕ). l ++ run.lines) (is.empty ∙ empty))) ∙ sym is.replies) in
    let heads = one served.replies (record { id = q.id; version = version }) (record { id = q.id; version = 0 })
    (subst (λ (l : List ℕ). BeginsWithHead l (record { id = q.id; version = version })) line (head_of q.id version answered.answer row.0 below (omega (arith, few)) answered.reply))
    (head_of q.id 0 answer served.replies below (omega arith) reply) in
    omega (arith, counted, read.fresh, ap (λ (h : Head). h.version) heads)
