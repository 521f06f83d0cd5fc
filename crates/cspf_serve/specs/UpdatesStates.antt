-- Private: the state that the code keeps for a stream of updates.
use Rattle.std.specs.Prelude.{◌≡◌, ℕ, ◌+◌, ◌<◌, ◌⊎◌, false, Option, List, ◌++◌, length}
use mathlib.Core.List.{IsPrefix}
use Rattle.cspf_journal.specs.declared.log_step.LogStep.{LogStep}
use Rattle.std.specs.Io.KnownBytes.{Appends}
use Rattle.cspf_ero.specs.ReplyLine.{IsReply}
use Rattle.cspf_model.specs.Best.{Answer, IsBestAnswer}
use Rattle.cspf_model.specs.Changes.{database_after}
use Rattle.cspf_model.specs.declared.batch.Change.{Change}
use Rattle.cspf_publish.specs.ApplyErrors.{IsApplyError}
use Rattle.cspf_publish.specs.PublisherStates.{PublisherState}
use Rattle.cspf_publish.specs.declared.errors.ApplyError.{ApplyError}
use Rattle.cspf_rows.specs.BatchText.{batch_text}
use Rattle.cspf_rows.specs.Rows.{row_of}
use Rattle.cspf_stream.specs.declared.open_changes.OpenChanges.{OpenChanges}
use Rattle.cspf_stream.specs.OpenChanges.{AreOpen}
use Rattle.cspf_stream.specs.RowAnswers.{AnswersOf}
use Rattle.cspf_stream.specs.Lines.{version_line, end_line}
use Rattle.cspf_stream.specs.Sinks.{SinkSpec}
use Rattle.cspf_stream.specs.StreamStops.{FailsOf}
use Rattle.cspf_solve.specs.Script.{open_batch, after_batch}
use Rattle.cspf_serve.specs.Counted.{CountedState, IsPublished}
use Rattle.cspf_serve.specs.LiveWords.{refusal_of}
use Rattle.cspf_serve.specs.Publishing.{PublishingSpec}
use Rattle.cspf_serve.specs.Updates.{UpdatesState, AreNowCounted, IsUpdateAnswered, IsUpdateLost, at_next_update}

-- The state that the code keeps for the updates of a run: the publisher with its journal's steps,
-- the open changes, and the numbers of answered requests and of refusals. An open change is one
-- whose `end` row hasn't been read.
pub record KeptUpdates (J : Type 0) : Type 0 where
  pub sink : CountedState J
  pub changes : OpenChanges
  pub answers : ℕ
  pub refused : ℕ

-- no change is open (without its `end` row), no request was answered, and nothing was refused
pub record IsFresh {J : Type 0} (k : KeptUpdates J) : Type 0 where
  pub none : k.changes.count ≡ 0
  pub unasked : k.answers ≡ 0
  pub clean : k.refused ≡ 0

-- The publisher has the same journal as at the start (the source is the journal's identity). Its
-- batches are the accepted batches of the state `s`, and the text of `s` was appended to the
-- journal. The steps of `s` are a prefix of the journal's steps in `c`.
pub record ArePublished {J : Type 0} (contents : J → Option (List ℕ)) (first : PublisherState J) (c : CountedState J) (s : UpdatesState) : Type 0 where
  pub source : c.publisher.source ≡ first.source
  pub batches : c.publisher.batches ≡ s.run.accepted
  pub stopped : c.publisher.stopped ≡ s.stopped
  pub journal : Appends (contents first.journal) (contents c.publisher.journal) s.text
  pub steps : IsPrefix s.steps c.steps.steps

-- `k` is the state in the code, and `s` is the state in the specification. Both have the same
-- published batches, the same open changes (without their `end` row), and the same number of
-- refusals.
pub record KeepsUpdates {J : Type 0} (contents : J → Option (List ℕ)) (first : PublisherState J) (k : KeptUpdates J) (s : UpdatesState) : Type 0 where
  pub published : ArePublished contents first k.sink s
  pub changes : AreOpen k.changes s.run.changes
  pub refused : k.refused ≡ s.run.refused

-- How a publisher publishes batches and answers requests. Each batch that it accepts is published,
-- and a later step of its journal counts the batch as published. Each error of the publisher is a
-- refusal of the batch.
abbrev pub publisher_spec : {J : Type 0} → (J → Option (List ℕ)) → SinkSpec (CountedState J)
publisher_spec contents = record {
  version = λ c. length c.publisher.batches;
  next = λ c. length c.publisher.batches + 1;
  stopped = λ c. c.publisher.stopped;
  accepts = λ c b line new.
      IsPublished contents c.publisher new.publisher b × (new.publisher.source ≡ c.publisher.source) × AreNowCounted new.publisher.batches c.steps.steps new.steps.steps
      × (line ≡ version_line b.number);
  refuses = λ c b why new.
      (error : ApplyError) × (why ≡ refusal_of error) × IsApplyError contents c.publisher new.publisher b error
      × (new.publisher.batches ≡ c.publisher.batches) × (new.publisher.source ≡ c.publisher.source) × (new.steps ≡ c.steps);
  replies = λ c q line.
      (answer : Answer) × IsBestAnswer (database_after c.publisher.batches) q answer × IsReply q.id (length c.publisher.batches) answer line;
}

-- the state after the batch with this number is published; the journal's steps `steps` count this
-- batch as published
abbrev pub after_published : UpdatesState → ℕ → List LogStep → UpdatesState
after_published s number steps = record {
  run = after_batch s.run number;
  stopped = false;
  text = s.text ++ batch_text (open_batch s.run number);
  steps = steps;
}

-- the row with the number `place`, counted from 1, is answered
abbrev pub IsUpdateTaken : {J : Type 0} → (J → Option (List ℕ)) → AnswersOf (KeptUpdates J)
IsUpdateTaken {J} contents place k fields line k' =
    (first : PublisherState J) (s : UpdatesState) → KeepsUpdates contents first k s → place ≡ s.run.rows + 1
    → (t : UpdatesState) × KeepsUpdates contents first k' t × IsUpdateAnswered (at_next_update s) (row_of fields) line t

-- memory is refused at the row with the number `place`, counted from 1
abbrev pub IsUpdateFailed : {J : Type 0} → (J → Option (List ℕ)) → FailsOf (KeptUpdates J)
IsUpdateFailed {J} contents place k fields k' =
    (first : PublisherState J) (s : UpdatesState) → KeepsUpdates contents first k s → place ≡ s.run.rows + 1
    → (t : UpdatesState) × KeepsUpdates contents first k' t × IsUpdateLost (at_next_update s) (row_of fields) t

-- How the updates of a run publish. The last line counts the open changes (those without their `end`
-- row). Refused are a row, a batch, and changes that are open at the end.
abbrev pub updates_spec : {J : Type 0} → (J → Option (List ℕ)) → PublishingSpec (KeptUpdates J) J (Unit {0})
updates_spec {J} contents = record {
  publisher = λ k. k.sink.publisher;
  steps = λ k. k.sink.steps;
  last = λ k line. (all : List Change) → AreOpen k.changes all → line ≡ end_line all;
  refused = λ k. (0 < k.refused) ⊎ (0 < k.changes.count);
  rest = λ k. tt;
  invariant = λ k. (first : PublisherState J) × (s : UpdatesState) × KeepsUpdates contents first k s;
}
