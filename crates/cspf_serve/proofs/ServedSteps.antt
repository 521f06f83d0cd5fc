-- The clients of a run: before their threads run, after their rows are answered, and their results.
use Rattle.std.proofs.Common.{◌≡◌, ◌↔◌, ◌+◌, ◌-◌, ◌^◌, ◌<◌, ◌⊎◌, ℕ, suc, min, false, Option, List, [], ◌∷◌, ◌++◌, All, length, Result, Ok, Err, inl, inr, refl, sym, ap, subst, ◌∙◌, arith, rules}
use Rattle.std.specs.List.{AllZip}
use Rattle.std.proofs.lemmas.List.Elements.{All-cons, All-head, All-nil, All-tail}
use Rattle.logbook.specs.Pages.{Book}
use Rattle.cspf_model.specs.Numbered.{NumberedChanges}
use Rattle.cspf_model.specs.declared.batch.Change.{Change}
use Rattle.cspf_publish.specs.PublisherStates.{PublisherState}
use Rattle.cspf_client.specs.declared.client.Client.{Client}
use Rattle.cspf_client.specs.declared.client.ServedClient.{ServedClient}
use Rattle.cspf_publish.specs.JournalSteps.{KnownSteps}
use Rattle.cspf_publish.specs.KnownBatches.{KnownBatches, AreFirstOf}
use Rattle.cspf_questions.specs.declared.kinds.QuestionKinds.{QuestionKinds}
use Rattle.cspf_client.specs.SessionStates.{AreFirstSteps}
use Rattle.cspf_client.specs.Sessions.{ReopensOf, ClientSession, IsSession, CameBefore, refused_in}
use Rattle.cspf_client.specs.declared.error.ClientError.TheVariants.{Ahead}
use Rattle.cspf_publish.specs.Histories.{BeginsWith}
use Rattle.cspf_client.specs.ServingStates.{ServingState, HasMet}
use Rattle.cspf_stream.specs.RowAnswers.{AnswersOf, AreAllAnswered}
use Rattle.cspf_stream.specs.StreamStops.{FailsOf, stream_error_of}
use Rattle.cspf_stream.specs.declared.error.StreamError.{StreamError}
use Rattle.cspf_stream.specs.declared.error.StreamError.TheVariants as error
use Rattle.cspf_stream.specs.declared.open_changes.OpenChanges.{OpenChanges}
use Rattle.cspf_stream.proofs.Going.{stopped_of}
use Rattle.cspf_stream.specs.Lines.{end_line}
use Rattle.cspf_serve.specs.ServedRun.{AreServedFrom, IsServedSession, IsServedSeat, IsServedRun, IsServedStatus, IsUpdateAnsweredAt, IsLastLineSaid, IsUpdatesRun}
use Rattle.cspf_jobs.specs.Jobs.{AreDone}
use Rattle.cspf_client.proofs.Prefixes.{IsPrefix-trans, AreFirstOf-self, AreFirstOf-trans, AreFirstSteps-trans}
use Rattle.cspf_rows.specs.Records.{rows_of}
use Rattle.cspf_serve.specs.declared.serving.served_run.Served.{Served}
use Rattle.std.specs.Option.{option_map}
use Rattle.cspf_serve.specs.NumberedPairs.{AreNumberedPairs}
use Rattle.cspf_serve.specs.ClientSeats.{SeatState, IsSeat, AreNumberedSeats}
use Rattle.cspf_serve.specs.Publishing.{PublishingSpec}
use Rattle.cspf_serve.specs.PublishingRuns.{IsLastPut, IsPublishingRun, IsStatusOf, IsStreamRun}
use Rattle.cspf_serve.specs.ServedSteps.{IsAnswered, IsOfSource, IsServedEnd, IsClosedRun}
use Rattle.cspf_serve.specs.Updates.{UpdatesState, no_updates}
use Rattle.cspf_stream.specs.OpenChanges.{AreOpen}
use Rattle.cspf_serve.specs.UpdatesStates.{KeptUpdates, KeepsUpdates, IsFresh, IsUpdateTaken, IsUpdateFailed, updates_spec}
use Rattle.cspf_serve.proofs.Pairs.{numbered_second, numbered_through, pairs_with}
use Rattle.cspf_serve.proofs.UpdatesStream.{carried_all, carried_stopped}

abbrev Rows : Type 0
Rows = List (List (List ℕ))

-- The rows that were refused in all sessions of a client: `before` is the count of the earlier
-- sessions, at most the largest number of 64 bits.
refused_of : (earlier before refused last total : ℕ) → before ≡ min earlier (2 ^ 64 - 1) → refused ≡ last → total ≡ min (before + refused) (2 ^ 64 - 1) → total ≡ min (last + earlier) (2 ^ 64 - 1)
refused_of earlier before refused last total was is all = omega (arith, was, is, all)

module _ {Q V : Type 0} (kinds : QuestionKinds) (reopens : ReopensOf Q V) (bytes : Q → Option (List ℕ)) (contents : V → Option (List ℕ)) (source : Book) where
  -- if there are as many seats as clients, each client has a seat, which has all that the client's
  -- thread needs
  pub ready_of : (seats : List SeatState) (clients : List (Client Q V)) → length seats ≡ length clients → AllZip (λ (s : SeatState) (c : Client Q V). Unit {0}) seats clients
  ready_of [] [] long = tt
  ready_of (s ∷ seats) (c ∷ clients) long = (tt, ready_of seats clients (omega (arith, long)))
  ready_of seats clients long = absurd (omega (arith, long))

  -- Each client was answered from its seat, which has all that the client's thread needs. The seats
  -- have askers of one publisher, and are numbered from `n` on. Then each client was answered by an
  -- asker of this publisher, and the client's number is the number of its seat.
  pub answered_of : (n : ℕ) (seats : List SeatState) (clients : List (Client Q V)) (ran : List (ServingState Q V)) → All (IsSeat source) seats → AreNumberedSeats n seats
      → AreDone (λ (s : SeatState) (client : Client Q V) (c : ServingState Q V). IsAnswered kinds reopens bytes contents s.asker.source s.number client c) seats clients ran
      → AreNumberedPairs (IsAnswered kinds reopens bytes contents source) n clients ran
  answered_of n [] [] [] each numbers done = tt
  answered_of n (s ∷ seats) (c ∷ clients) (r ∷ ran) each numbers done = (
    subst (λ (m : ℕ). IsAnswered kinds reopens bytes contents source m c r) numbers.0
        (subst (λ book. IsAnswered kinds reopens bytes contents book s.number c r) (All-head (IsSeat source) s seats each) done.0),
    answered_of (suc n) seats clients ran (All-tail (IsSeat source) s seats each) numbers.1 done.1,
  )
  answered_of n seats clients ran each numbers done = absurd done

  -- after the clients have run, the batches that they know, and the steps that they have seen, are
  -- still from the publisher's journal (the source is its identity)
  pub sources_of_run : (clients : List (Client Q V)) (ran : List (ServingState Q V)) → AreNumberedPairs (IsAnswered kinds reopens bytes contents source) 1 clients ran → All (IsOfSource source) ran
  sources_of_run clients ran answered =
      numbered_second (IsAnswered kinds reopens bytes contents source) (IsOfSource source) (λ n c s is. (sym is.forward.known.source ∙ is.source_is, sym is.forward.steps.source ∙ is.steps_source)) 1 clients ran answered

  -- Suppose that a client knew the batches of its state `before` and had seen its steps when a
  -- session began. Then the batches and steps that it knew in the sessions before are prefixes of
  -- all that it knew later.
  sessions_before : (known : KnownBatches) (all : KnownSteps) (number : ℕ) (first : ServingState Q V) (streams : Client Q V) (before : ServingState Q V) (earlier : List (ClientSession Q V))
      → CameBefore reopens first streams before earlier → All (IsSession kinds bytes contents number) earlier → known.source ≡ all.source → AreFirstOf known before.state.known → AreFirstSteps all before.state.steps
      → All (IsServedSession kinds bytes contents known all number) earlier
  sessions_before known all number first streams before [] turn each source knew saw = All-nil (IsServedSession kinds bytes contents known all number)
  sessions_before known all number first streams before (s ∷ earlier) turn each source knew saw =
      let is = All-head (IsSession kinds bytes contents number) s earlier each in
      let here : AreFirstOf known s.after.state.known = subst (AreFirstOf known) turn.0.known knew in
      let seen : AreFirstSteps all s.after.state.steps = subst (AreFirstSteps all) turn.0.steps saw in
      All-cons (IsServedSession kinds bytes contents known all number) s earlier
      (record { session = is; first = seen; source = here.source ∙ source; known_first = here })
      (sessions_before known all number first s.streams s.before earlier turn.1 (All-tail (IsSession kinds bytes contents number) s earlier each) source
      (AreFirstOf-trans s.before.state.known s.after.state.known known is.forward.known here)
      (AreFirstSteps-trans s.before.state.steps s.after.state.steps all is.forward.steps seen))

  -- the same of all sessions of a client that has ended
  sessions_of : (known : KnownBatches) (all : KnownSteps) (number : ℕ) (first : ServingState Q V) (last : ClientSession Q V) (earlier : List (ClientSession Q V))
      → CameBefore reopens first last.streams last.before earlier → All (IsSession kinds bytes contents number) (last ∷ earlier) → known ≡ last.after.state.known → known.source ≡ all.source
      → AreFirstSteps all last.after.state.steps
      → All (IsServedSession kinds bytes contents known all number) (last ∷ earlier)
  sessions_of known all number first last earlier turn each is_known source seen =
      let is = All-head (IsSession kinds bytes contents number) last earlier each in
      let here : AreFirstOf known last.after.state.known = subst (AreFirstOf known) is_known (AreFirstOf-self known) in
      All-cons (IsServedSession kinds bytes contents known all number) last earlier
      (record { session = is; first = seen; source = here.source ∙ source; known_first = here })
      (sessions_before known all number first last.streams last.before earlier turn (All-tail (IsSession kinds bytes contents number) last earlier each) source
      (AreFirstOf-trans last.before.state.known last.after.state.known known is.forward.known here)
      (AreFirstSteps-trans last.before.state.steps last.after.state.steps all is.forward.steps seen))

  -- if a client was answered and has its result, `IsServedSeat` holds of the client and its result
  seat_of : (published : List NumberedChanges) (all : KnownSteps) (n : ℕ) (c : Client Q V) (a : ServingState Q V) (s : ServedClient V) → IsAnswered kinds reopens bytes contents source n c a
      → IsServedEnd published a s → AreFirstSteps all a.state.steps → IsServedSeat kinds bytes contents reopens published all n c s
  seat_of published all n c a s is ends first =
      let run = is.sessions in
      let known : s.known ≡ run.last.after.state.known = ends.known ∙ ap (λ (x : ServingState Q V). x.state.known) run.after in
      let source_of : s.known.source ≡ all.source = ap (λ (k : KnownBatches). k.source) ends.known ∙ (sym is.forward.known.source ∙ (is.source_is ∙ (sym is.steps_source ∙ (is.forward.steps.source ∙ first.source)))) in
      record {
        first = is.before;
        last = run.last;
        earlier = run.earlier;
        requests = is.requests;
        empty = is.replies;
        in_turn = run.in_turn;
        ends = run.ends;
        each =
            sessions_of s.known all n is.before run.last run.earlier run.in_turn
            (subst (λ (m : ℕ). All (IsSession kinds bytes contents m) (run.last ∷ run.earlier)) is.number_is run.each) known source_of
            (subst (λ (x : ServingState Q V). AreFirstSteps all x.state.steps) run.after first);
        replies = ends.replies ∙ ap (λ (x : ServingState Q V). x.replies) run.after;
        refused = refused_of (refused_in run.earlier) a.refused_before a.state.refused run.last.after.state.refused s.refused run.refused (ap (λ (x : ServingState Q V). x.state.refused) run.after) ends.refused;
        steps = ends.steps ∙ ap (λ (x : ServingState Q V). x.state.steps) run.after;
        known = known;
        end = subst (λ (x : ServingState Q V). ((s.end ≡ x.end) × BeginsWith published s.known.batches) ⊎ ((s.end ≡ Err Ahead) × (length published < length s.known.batches))) run.after ends.end;
      }

  -- if each client was answered and has its result, `IsServedSeat` holds of each client and its
  -- result
  served_of : (published : List NumberedChanges) (all : KnownSteps) (clients : List (Client Q V)) (ran : List (ServingState Q V)) (served : List (ServedClient V))
      → AreNumberedPairs (IsAnswered kinds reopens bytes contents source) 1 clients ran → AllZip (IsServedEnd published) ran served → All (λ (a : ServingState Q V). AreFirstSteps all a.state.steps) ran
      → AreServedFrom kinds bytes contents reopens published all 1 clients served
  served_of published all clients ran served answered closed firsts =
      let Ends : ServingState Q V → ServedClient V → Type 0 = λ a s. IsServedEnd published a s × AreFirstSteps all a.state.steps in
      numbered_through (IsAnswered kinds reopens bytes contents source) Ends (IsServedSeat kinds bytes contents reopens published all)
      (λ n c a s is ends. seat_of published all n c a s is ends.0 ends.1) 1 clients ran served answered
      (pairs_with (IsServedEnd published) (λ (a : ServingState Q V). AreFirstSteps all a.state.steps) ran served closed firsts)

  -- if the rows of the stream were answered, and the stream and the clients have ended, the result of
  -- the run is as `IsPublishingRun` says
  pub publishing_run : {S F W J R : Type 0} (spec : PublishingSpec S J R) (answers : AnswersOf S) (fails : F → FailsOf S) (said : W → Option (List ℕ)) (rows : Option (List ℕ)) (writer written : W) (before after : S)
      (clients : List (Client Q V)) (ran : List (ServingState Q V)) (ended : Result (Unit {0}) StreamError) (served : Served W J V) (rest : R)
      → IsStreamRun answers fails spec.last ended (option_map rows_of rows) before after (said writer) (said written)
      → AreNumberedPairs (IsAnswered kinds reopens bytes contents source) 1 clients ran → IsClosedRun spec ended written after ran served rest
      → IsPublishingRun spec answers fails kinds rows said bytes contents reopens writer before clients served rest
  publishing_run spec answers fails said rows writer written before after clients ran ended served rest run answered closed = record {
    after = after;
    rows_run = rw (closed.ended_is, closed.said_is) run;
    journal_is = closed.journal_is;
    rest_is = closed.rest_is;
    steps_of_run = closed.steps;
    clients_served = served_of (spec.publisher after).batches served.steps clients ran served.clients.items answered closed.closed closed.seen;
    status_is = closed.status;
  }

-- all rows of the updates are answered, and then the last line is written, or writing it fails
pub updates_run : (said : Result (Unit {0}) StreamError) (all : Option Rows) (t : UpdatesState) (old mid new : Option (List ℕ))
    → AreAllAnswered IsUpdateAnsweredAt all no_updates t old mid → IsLastLineSaid said (end_line t.run.changes) mid new → IsUpdatesRun said all t old new
updates_run said all t old mid new answered last = search rules

-- the last line that the code says after the updates counts the open changes (those without their
-- `end` row)
last_said : (said : Result (Unit {0}) StreamError) (k : OpenChanges) (changes : List Change) (old new : Option (List ℕ)) → AreOpen k changes
    → IsLastPut said (λ line. (all : List Change) → AreOpen k all → line ≡ end_line all) old new → IsLastLineSaid said (end_line changes) old new
last_said (Ok done) k changes old new kept put = rw (sym (put.1 changes kept)) put.2
last_said (Err error.Memory) k changes old new kept put = put
last_said (Err error.Write) k changes old new kept put = rw (sym (put.1 changes kept)) put.2
last_said (Err error.Flush) k changes old new kept put = rw (sym (put.1 changes kept)) put.2
last_said (Err other) k changes old new kept put = absurd put

module _ {J : Type 0} (contents : J → Option (List ℕ)) (first : PublisherState J) where
  -- the updates of a run are answered as the specification says
  updates_run_of : {F : Type 0} (ended : Result (Unit {0}) StreamError) (all : Option Rows) (k k' : KeptUpdates J) (old new : Option (List ℕ)) → KeepsUpdates contents first k no_updates
      → IsStreamRun {F = F} (IsUpdateTaken contents) (λ fault. IsUpdateFailed contents) (updates_spec contents).last ended all k k' old new
      → (t : UpdatesState) × KeepsUpdates contents first k' t × IsUpdatesRun ended all t old new
  updates_run_of ended all k k' old new kept (inl a) =
      let b = carried_all contents first all all false k k' kept old a.0 a.1 in
      (b.0, b.1, updates_run ended all b.0 old a.0 new b.2 (last_said ended k'.changes b.0.run.changes a.0 new b.1.changes a.2))
  updates_run_of ended all k k' old new kept (inr a) =
      let stopped = stopped_of (IsUpdateTaken contents) (IsUpdateFailed contents) all a.1 a.2 k k' old new a.0 a.4 in
      let b = carried_stopped contents first all a.1 a.2 k k' kept old new (stream_error_of a.0) stopped in
      (b.0, b.1, rw a.3 (inl (a.1, a.2, b.2)))

  module _ {V : Type 0} (k : KeptUpdates J) (t : UpdatesState) (kept : KeepsUpdates contents first k t) (clients : List (ServedClient V)) where
    status_accepted : ¬ ((0 < k.refused) ⊎ (0 < k.changes.count)) → All (λ (c : ServedClient V). c.refused ≡ 0) clients → IsServedStatus t clients 0
    status_accepted not each = search rules

    status_refused : (0 < k.refused) ⊎ (0 < k.changes.count) → IsServedStatus t clients 2
    status_refused h1 = search rules

    status_of_clients : ¬ All (λ (c : ServedClient V). c.refused ≡ 0) clients → IsServedStatus t clients 2
    status_of_clients not = inr ((λ all. not all.each), refl)

    status_of_updates : (status : ℕ) → IsStatusOf ((updates_spec contents).refused k) clients status → IsServedStatus t clients status
    status_of_updates status (inl is) = rw is.2 (status_accepted is.0 is.1)
    status_of_updates status (inr (inl refused, is)) = rw is (status_refused refused)
    status_of_updates status (inr (inr not, is)) = rw is (status_of_clients not)

  -- If the publisher of a run started without batches, its result is as `IsServedRun` says.
  pub served_run : {F W Q V : Type 0} (kinds : QuestionKinds) (updates : Option (List ℕ)) (said : W → Option (List ℕ)) (bytes : Q → Option (List ℕ)) (replies : V → Option (List ℕ)) (reopens : ReopensOf Q V)
      (writer : W) (before : KeptUpdates J) (clients : List (Client Q V)) (served : Served W J V) (rest : Unit {0}) → KeepsUpdates contents first before no_updates
      → IsPublishingRun {F = F} (updates_spec contents) (IsUpdateTaken contents) (λ fault. IsUpdateFailed contents) kinds updates said bytes replies reopens writer before clients served rest
      → IsServedRun kinds updates said contents bytes replies reopens writer first.journal clients served
  served_run kinds updates said bytes replies reopens writer before clients served rest kept run =
      let t = updates_run_of served.updates (option_map rows_of updates) before run.after (said writer) (said served.said) kept run.rows_run in
      let batches = t.1.published.batches in
      let steps = run.steps_of_run in
      record {
        state = t.0;
        updates_run = t.2;
        journal_grown = rw run.journal_is t.1.published.journal;
        steps_of_run = record {
          journal = steps.journal;
          recorded = rw batches at steps.recorded;
          counted = rw batches at steps.counted;
          later = IsPrefix-trans t.0.steps run.after.sink.steps.steps served.steps.steps t.1.published.steps steps.later;
        };
        clients_served = rw batches at run.clients_served;
        status_is = status_of_updates run.after t.0 t.1 served.clients.items served.status run.status_is;
      }

-- At the end of a run, each client learns of all published batches. The result of a client has the
-- batches that it knew before that.
pub closed_of : {Q V : Type 0} (published : List NumberedChanges) (told knew : KnownBatches) (old met : ServingState Q V) (served : ServedClient V)
    → told.batches ≡ published → knew ≡ old.state.known
    → met ≡ record old { state = record old.state { known = met.state.known }; end = met.end }
    → AreFirstOf met.state.known old.state.known → HasMet told old met
    → served ≡ record { replies = met.replies; end = met.end; refused = min (met.refused_before + met.state.refused) (2 ^ 64 - 1); steps = met.state.steps; known = knew } → IsServedEnd published old served
closed_of published told knew old met served batches was others known has left = search rules

-- if the seats of clients are numbered from `n` on, and a seat with the next number is added at the
-- end, all seats are numbered from `n` on
pub seats_more : (n : ℕ) (seats : List SeatState) (seat : SeatState) → AreNumberedSeats n seats → seat.number ≡ length seats + n → AreNumberedSeats n (seats ++ seat ∷ [])
seats_more n [] seat all is = (omega (arith, is), tt)
seats_more n (s ∷ seats) seat all is = (all.0, seats_more (suc n) seats seat all.1 (omega (arith, is)))

-- a publisher that has no batches yet is in the state before the first row of the updates
pub begins : {J : Type 0} (contents : J → Option (List ℕ)) (p : PublisherState J) (k : KeptUpdates J) → k.sink.publisher ≡ p → p.batches ≡ [] → p.stopped ≡ false
    → AreOpen k.changes [] → IsFresh k → KeepsUpdates contents p k no_updates
begins contents p k same none going h4 fresh = search rules

-- The status depends only on whether there were refusals.
pub status_iff : {V : Type 0} (P Q : Type 0) (clients : List (ServedClient V)) (status : ℕ) → P ↔ Q → IsStatusOf P clients status → IsStatusOf Q clients status
status_iff P Q clients status iff (inl (none, each, is)) = inl ((λ q. none (iff.1 q)), each, is)
status_iff P Q clients status iff (inr (inl p, is)) = inr (inl (iff.0 p), is)
status_iff P Q clients status iff (inr (inr some, is)) = inr (inr some, is)
