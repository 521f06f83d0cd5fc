-- The lines that a live run writes, and the text that it writes to its journal.
use Rattle.std.proofs.Common.{◌≡◌, ℕ, ◌+◌, ◌<◌, ◌≤◌, ◌⊎◌, Vec, false, Option, Some, None, IfSome, Result, Ok, Err, IfOk, IfErr, List, [], ◌++◌, take, get_or, length, slice_get, inl, inr, refl, sym, ap, ◌∙◌, subst, append_assoc, arith, rules}
use Rattle.std.proofs.KnownBytes.{Appends-nil, Appends-trans}
use Rattle.std.proofs.lemmas.List.{length-map, length-take-le}
use Rattle.std.proofs.lemmas.Option.{slice_get_within, get_or_from_slice_get}
use Rattle.std.specs.Io.KnownBytes.{Appends}
use Rattle.std.specs.List.{flat_map}
use Rattle.cspf_model.specs.declared.request.Request.{Request}
use Rattle.cspf_model.specs.Numbered.{NumberedChanges, AreNumberedFrom}
use Rattle.cspf_publish.specs.ApplyErrors.{IsApplyError}
use Rattle.cspf_publish.specs.Histories.{IsHistory}
use Rattle.cspf_publish.specs.PublisherStates.{PublisherState}
use Rattle.cspf_publish.specs.declared.answer.Answer.{Answer}
use Rattle.cspf_publish.specs.declared.errors.ApplyError.{ApplyError}
use Rattle.cspf_rows.specs.BatchText.{batch_text}
use Rattle.cspf_rows.specs.Records.{rows_of}
use Rattle.std.specs.Global.{Global}
use Rattle.std.proofs.lemmas.Result.{IfOk-weaker}
use Rattle.cspf_publish.specs.AskerStates.{AskerState}
use Rattle.cspf_work.specs.declared.live.Live.{Live}
use Rattle.cspf_work.specs.declared.serve_error.ServeError.{ServeError}
use Rattle.cspf_serve.specs.declared.streams.error.RunError.TheVariants.{Serve}
use Rattle.cspf_work.specs.Served.{AreAnswersWithin, AreAnsweredByWorkers, IsFaultOfWorker, IsUnaccounted}
use Rattle.cspf_work.specs.Applied.{AreApplied, IsAppliedUpTo, IsAppliedInPart, IsEndOfApplying}
use Rattle.cspf_serve.specs.AnswerLines.{AreAnswerLines}
use Rattle.cspf_judge.specs.Inputs.{AreBatchesOf, AreRequestsOf}
use Rattle.cspf_judge.specs.EarlyEnds.{Writes, IfRefused, IsRefusalWritten}
use Rattle.cspf_serve.specs.declared.streams.error.RunError.{RunError}
use Rattle.cspf_judge.specs.declared.early_end.EarlyEnd.{EarlyEnd}
use Rattle.cspf_serve.specs.LiveRun.{IsWhyNot, begun_text, IsEndOfLiveRun, AreAnsweredLive, AreRecordedAtError, IsRecordedAtError, AreInputsRefused, IsLiveRun}
use Rattle.cspf_serve.specs.LiveLines.{IsFaultShown, AreLiveLines}
use Rattle.cspf_serve.specs.LiveWords.{applied_line, unpublished_line}
use Rattle.cspf_serve.specs.RunFaults.{IsStreamFault, IsRunFault, IsLiveFault}
use Rattle.cspf_serve.proofs.AnswerLines.{replies_within}
use Rattle.cspf_serve.proofs.PublishedLines.{number_at}

-- the replies, the line that counts the applied batches, and the last line are written: these are
-- the lines of a live run
pub live_written : (answers : List Answer) (batches : List NumberedChanges) (applied : ℕ) (fault : Option ApplyError) (status : ℕ) (old mid next new : Option (List ℕ))
    → Writes old mid (AreAnswerLines answers) → Appends mid next (applied_line applied)
    → Writes next new (λ line. IsFaultShown (slice_get batches applied) fault line status) → Writes old new (AreLiveLines answers batches applied fault status)
live_written answers batches applied fault status old mid next new replies count last = (
  replies.0 ++ (applied_line applied ++ last.0),
  (replies.0, last.0, replies.1, last.1, sym (append_assoc replies.0 (applied_line applied) last.0)),
  Appends-trans old mid new replies.0 (applied_line applied ++ last.0) replies.2 (Appends-trans mid next new (applied_line applied) last.0 count last.2),
)

-- ---- the end of the run

same_journal : {J : Type 0} (contents : J → Option (List ℕ)) (p after : PublisherState J) → after ≡ p → Appends (contents p.journal) (contents after.journal) []
same_journal {J} contents p after same =
    subst (λ (x : PublisherState J). Appends (contents p.journal) (contents x.journal) []) (sym same) (Appends-nil (contents p.journal))

-- if a batch with the next number isn't published, the reason is that it doesn't fit, refused
-- memory, or a fault of the journal
why_not : {J : Type 0} (contents : J → Option (List ℕ)) (published : List NumberedChanges) (p after : PublisherState J) (b : NumberedChanges) (e : ApplyError)
    → p.stopped ≡ false → p.batches ≡ published → b.number ≡ length p.batches + 1 → length p.batches < 1000000 → IsApplyError contents p after b e
    → IsWhyNot published b e × Appends (contents p.journal) (contents after.journal) (begun_text b e)
why_not contents published p after b e going is number room why = search rules

-- the journal has no fault until the first batch is refused
still_going : {J : Type 0} (contents : J → Option (List ℕ)) (before between : PublisherState J) (batches : List NumberedChanges)
    → before.stopped ≡ false → AreApplied contents before between batches → between.stopped ≡ false
still_going contents before between batches fresh is = search rules

-- Batches are applied until one is refused. Then the last line, the status, and the journal's text
-- after the published batches are as `IsEndOfLiveRun` says.
ended : {J : Type 0} (contents : J → Option (List ℕ)) (batches : List NumberedChanges) (between after : PublisherState J) (applied : ℕ) (fault : Option ApplyError)
    (last : List ℕ) (status : ℕ) → AreNumberedFrom 1 batches → length batches ≤ 1000000 → applied ≤ length batches
    → between.stopped ≡ false → between.batches ≡ take applied batches → IsEndOfApplying contents between after batches applied fault
    → IsFaultShown (slice_get batches applied) fault last status
    → (begun : List ℕ) × IsEndOfLiveRun batches applied last begun status × Appends (contents between.journal) (contents after.journal) begun
ended contents batches between after applied None last status numbered few inside going is end shown =
    ([], inl (end.0, shown.0, refl, shown.1), same_journal contents between after end.1)
ended contents batches between after applied (Some e) last status numbered few inside going is end shown =
    let next = end.0 in
    let at : slice_get batches applied ≡ Some next = end.1 in
    let within = slice_get_within batches applied next at in
    let size : length between.batches ≡ applied = ap length is ∙ length-take-le applied batches inside in
    let placed : get_or batches applied next ≡ next = get_or_from_slice_get batches applied next next at in
    let first = number_at 1 batches applied next numbered within in
    let number : next.number ≡ length between.batches + 1 = sym (ap (λ (b : NumberedChanges). b.number) placed) ∙ (first ∙ omega arith) in
    let why = why_not contents (take applied batches) between after next e going is number (omega arith) end.2 in
    let line : IsFaultShown (Some next) (Some e) last status = subst (λ (b : Option NumberedChanges). IsFaultShown b (Some e) last status) at shown in
    (begun_text next e, inr (next, e, at, why.0, line.0, refl, line.1), why.1)

-- Batches are applied, the requests are answered at published versions, and the lines of
-- `AreLiveLines` are written. Then the live run is as `AreAnsweredLive` says.
pub live_answered : {J : Type 0} (contents : J → Option (List ℕ)) (batches : List NumberedChanges) (requests : List Request) (answers : List Answer)
    (before after : PublisherState J) (applied version : ℕ) (fault : Option ApplyError) (status : ℕ) (old new : Option (List ℕ))
    → AreNumberedFrom 1 batches → length batches ≤ 1000000 → before.batches ≡ [] → before.stopped ≡ false
    → IsAppliedUpTo contents before after batches applied fault → version ≡ length after.batches → IsHistory after.batches
    → length answers ≡ length requests → AreAnswersWithin after.batches requests answers
    → Writes old new (AreLiveLines answers batches version fault status)
    → (lines : List ℕ) × (text : List ℕ) × AreAnsweredLive batches requests lines text status
    × Appends old new lines × Appends (contents before.journal) (contents after.journal) text
live_answered {J} contents batches requests answers before after applied version fault status old new numbered few fresh going up is history count within written =
    let published : after.batches ≡ take applied batches = up.published ∙ ap (λ (bs : List NumberedChanges). bs ++ take applied batches) fresh in
    let same : version ≡ applied = is ∙ (ap length published ∙ length-take-le applied batches up.inside) in
    let lines : AreLiveLines answers batches applied fault status written.0 =
    subst (λ (n : ℕ). AreLiveLines answers batches n fault status written.0) same written.1 in
    let first = up.first in
    let between : up.between.batches ≡ take applied batches = first.published ∙ ap (λ (bs : List NumberedChanges). bs ++ take applied batches) fresh in
    let end = ended contents batches up.between after applied fault lines.1 status numbered few up.inside
    (still_going contents before up.between (take applied batches) going first) between up.stop lines.3 in (
      written.0,
      flat_map batch_text (take applied batches) ++ end.0,
      record {
        applied = applied;
        inside = up.inside;
        history = subst IsHistory published history;
        replies = lines.0;
        answered = replies_within (take applied batches) requests answers lines.0 count (subst (λ (bs : List NumberedChanges). AreAnswersWithin bs requests answers) published within) lines.2;
        last = lines.1;
        begun = end.0;
        end = end.1;
        written = lines.4;
        recorded = refl;
      },
      written.2,
      Appends-trans (contents before.journal) (contents up.between.journal) (contents after.journal) (flat_map batch_text (take applied batches)) end.0 first.recorded end.2,
    )

-- ---- after an error

-- A run may end by an error after it has applied batches. Some run without an error writes the same
-- text to its journal after the published batches.
recorded_end : {J : Type 0} (contents : J → Option (List ℕ)) (batches : List NumberedChanges) (between after : PublisherState J) (applied : ℕ) (fault : Option ApplyError)
    → AreNumberedFrom 1 batches → length batches ≤ 1000000 → applied ≤ length batches
    → between.stopped ≡ false → between.batches ≡ take applied batches → IsEndOfApplying contents between after batches applied fault
    → (last : List ℕ) × (status : ℕ) × (begun : List ℕ) × IsEndOfLiveRun batches applied last begun status × Appends (contents between.journal) (contents after.journal) begun
recorded_end contents batches between after applied None numbered few inside going is end =
    let is_end = ended contents batches between after applied None [] 0 numbered few inside going is end (refl, refl) in
    ([], 0, is_end.0, is_end.1, is_end.2)
recorded_end contents batches between after applied (Some e) numbered few inside going is end =
    let line = unpublished_line (end.0).number e in
    let shown : IsFaultShown (slice_get batches applied) (Some e) line 2 =
    subst (λ (b : Option NumberedChanges). IsFaultShown b (Some e) line 2) (sym end.1) (refl, refl) in
    let is_end = ended contents batches between after applied (Some e) line 2 numbered few inside going is end shown in
    (line, 2, is_end.0, is_end.1, is_end.2)

-- the text that is written to the journal, if a run ends by an error
abbrev pub IsHeldAtError : List NumberedChanges → Option (List ℕ) → Option (List ℕ) → Type 0
IsHeldAtError batches old new = (text : List ℕ) × AreRecordedAtError batches text × Appends old new text

-- if batches were applied before the error, the text written to the journal is as
-- `AreRecordedAtError` says
pub held_applied : {J : Type 0} (contents : J → Option (List ℕ)) (batches : List NumberedChanges) (before after : PublisherState J) (applied : ℕ) (fault : Option ApplyError)
    → AreNumberedFrom 1 batches → length batches ≤ 1000000 → before.batches ≡ [] → before.stopped ≡ false
    → IsAppliedUpTo contents before after batches applied fault → IsHeldAtError batches (contents before.journal) (contents after.journal)
held_applied contents batches before after applied fault numbered few fresh going up =
    let first = up.first in
    let between : up.between.batches ≡ take applied batches = first.published ∙ ap (λ (bs : List NumberedChanges). bs ++ take applied batches) fresh in
    let end = recorded_end contents batches up.between after applied fault numbered few up.inside
    (still_going contents before up.between (take applied batches) going first) between up.stop in (
      flat_map batch_text (take applied batches) ++ end.2,
      inr (record { applied = applied; inside = up.inside; last = end.0; begun = end.2; status = end.1; end = end.3; recorded = refl }),
      Appends-trans (contents before.journal) (contents up.between.journal) (contents after.journal) (flat_map batch_text (take applied batches)) end.2 first.recorded end.4,
    )

-- if the journal is unchanged, or if batches were applied before the error, the text written to the
-- journal is as `AreRecordedAtError` says
pub held_in_part : {J : Type 0} (contents : J → Option (List ℕ)) (batches : List NumberedChanges) (before after : PublisherState J)
    → AreNumberedFrom 1 batches → length batches ≤ 1000000 → before.batches ≡ [] → before.stopped ≡ false
    → IsAppliedInPart contents before after batches → IsHeldAtError batches (contents before.journal) (contents after.journal)
held_in_part contents batches before after numbered few fresh going (inl same) = ([], inl refl, same_journal contents before after same)
held_in_part contents batches before after numbered few fresh going (inr part) =
    held_applied contents batches before after part.0 part.1 numbered few fresh going part.2

-- a true fact is also true if the run ends by an error
pub at_error : {X : Type 0} (r : Result ℕ RunError) → X → IfErr r (λ e. X)
at_error r x = search rules

-- ---- the result of the workers, and the end of the run

module _ {J : Type 0} (contents : J → Option (List ℕ)) (batches : List NumberedChanges) (requests : List Request) (before : PublisherState J)
    (ended : Result ℕ RunError) (journal : J) where
  -- if the workers returned answers, and the lines of these answers are written, the live run is as
  -- `AreAnsweredLive` says
  pub run_answered : (ran : Result (Live J) (ServeError × PublisherState J × Vec AskerState Global)) (askers : List AskerState) (old new : Option (List ℕ))
      → AreNumberedFrom 1 batches → length batches ≤ 1000000 → before.batches ≡ [] → before.stopped ≡ false
      → IfOk ran (λ live. AreAnsweredByWorkers requests askers live.askers.items live.list.items live.drawn.items)
      → IfOk ran (λ live. AreAnswersWithin live.publisher.batches requests live.list.items)
      → IfOk ran (λ live. IsAppliedUpTo contents before live.publisher batches live.applied live.fault)
      → IfOk ran (λ live. IfOk ended (λ status. Writes old new (AreLiveLines live.list.items batches (length live.publisher.batches) live.fault status)))
      → IfOk ran (λ live. journal ≡ live.publisher.journal) → IfOk ran (λ live. IsHistory live.publisher.batches)
      → IfErr ran (λ e. ended ≡ Err (Serve e.0))
      → IfOk ended (λ status. (lines : List ℕ) × (text : List ℕ) × AreAnsweredLive batches requests lines text status
      × Appends old new lines × Appends (contents before.journal) (contents journal) text)
  run_answered (Err e) askers old new numbered few fresh going answers within up lines same history fault = rw fault tt
  run_answered (Ok live) askers old new numbered few fresh going answers within up lines same history fault =
      rw same
      (IfOk-weaker ended _ _
      (λ status written.
      live_answered contents batches requests live.list.items before live.publisher live.applied (length live.publisher.batches) live.fault status old new
      numbered few fresh going up refl history answers.count within written)
      lines)

  -- if the run ends by an error, this error is a fault of the writer of the lines, or of the
  -- workers
  pub run_failed : (ran : Result (Live J) (ServeError × PublisherState J × Vec AskerState Global))
      → IfOk ran (λ live. IfErr ended IsStreamFault) → IfErr ran (λ e. ended ≡ Err (Serve e.0))
      → IfErr ran (λ e. IsFaultOfWorker e.0 ⊎ IsUnaccounted (length requests) (length (e.1).batches) e.0)
      → IfErr ended (IsRunFault (λ index version. (index < length requests) × (0 < version)))
  run_failed ran failed fault why = search rules

  -- the texts of the applied batches are appended to the journal
  pub run_recorded : (ran : Result (Live J) (ServeError × PublisherState J × Vec AskerState Global))
      → AreNumberedFrom 1 batches → length batches ≤ 1000000 → before.batches ≡ [] → before.stopped ≡ false
      → IfOk ran (λ live. IsAppliedUpTo contents before live.publisher batches live.applied live.fault)
      → IfErr ran (λ e. IsAppliedInPart contents before e.1 batches)
      → IfOk ran (λ live. journal ≡ live.publisher.journal) → IfErr ran (λ e. journal ≡ (e.1).journal)
      → IfErr ended (λ e. IsHeldAtError batches (contents before.journal) (contents journal))
  run_recorded (Ok live) numbered few fresh going up part same closed =
      rw same (at_error ended (held_applied contents batches before live.publisher live.applied live.fault numbered few fresh going up))
  run_recorded (Err e) numbered few fresh going up part same closed =
      rw closed (at_error ended (held_in_part contents batches before e.1 numbered few fresh going part))

-- the text that is written to the journal, if a run over updates ends by an error
abbrev pub IsHeldLive : Option (List ℕ) → Option (List ℕ) → Option (List ℕ) → Type 0
IsHeldLive updates old new = IfSome updates (λ kept. (text : List ℕ) × IsRecordedAtError (rows_of kept) text × Appends old new text)

-- `IsHeldLive` holds of an unchanged journal
pub held_as_before : (updates old : Option (List ℕ)) → IsHeldLive updates old old
held_as_before updates old = search rules

-- Let `bs` be the batches of the updates. If the journal after an error is as `IsHeldAtError` says
-- of `bs`, it is as `IsHeldLive` says of the updates.
pub live_held : (updates : Option (List ℕ)) (bs : List NumberedChanges) (r : Result ℕ RunError) (old new : Option (List ℕ))
    → IfSome updates (λ bytes. AreBatchesOf false (rows_of bytes) bs) → (AreNumberedFrom 1 bs → IfErr r (λ e. IsHeldAtError bs old new))
    → IfErr r (λ e. IsHeldLive updates old new)
live_held updates bs r old new batches held = search rules

-- ---- the whole run

-- `IsLiveRun` holds of the lines, the journal's text and the status; nothing is stated if the bytes
-- of a stream aren't known
abbrev pub IsWrittenLive : Option (List ℕ) → Option (List ℕ) → ℕ → Option (List ℕ) → Option (List ℕ) → Option (List ℕ) → Option (List ℕ) → Type 0
IsWrittenLive updates requests status old new begun held =
    IfSome updates (λ kept. IfSome requests (λ asked. (lines : List ℕ) × (text : List ℕ) × IsLiveRun (rows_of kept) (rows_of asked) lines text status
    × Appends old new lines × Appends begun held text))

-- If both streams are read, and their batches and requests are published and answered as
-- `AreAnsweredLive` says, then the run is as `IsWrittenLive` says.
pub live_ran : (updates requests : Option (List ℕ)) (bs : List NumberedChanges) (qs : List Request) (r : Result ℕ RunError) (old new begun held : Option (List ℕ))
    → IfSome updates (λ bytes. AreBatchesOf false (rows_of bytes) bs) → IfSome requests (λ bytes. AreRequestsOf (rows_of bytes) qs)
    → (AreNumberedFrom 1 bs → IfOk r (λ status. (lines : List ℕ) × (text : List ℕ) × AreAnsweredLive bs qs lines text status
    × Appends old new lines × Appends begun held text))
    → IfOk r (λ status. IsWrittenLive updates requests status old new begun held)
live_ran updates requests bs qs r old new begun held batches asked ran = search rules

-- If one of the streams is refused, and the run writes the line of this refusal and has the status
-- 2, then the run is as `IsWrittenLive` says.
pub live_refused : (updates requests : Option (List ℕ)) (s : EarlyEnd) (r : Result ℕ RunError) (old new held : Option (List ℕ))
    → IfRefused s (λ line. IfSome updates (λ kept. IfSome requests (λ asked. AreInputsRefused (rows_of kept) (rows_of asked) line)))
    → IfOk r (λ status. status ≡ 2) → IfOk r (λ status. IsRefusalWritten s old new)
    → IfOk r (λ status. IsWrittenLive updates requests status old new held held)
live_refused updates requests s r old new held refused two written = search rules

-- if the error of a live run names the index of a request, the stream of requests has a row at this
-- index
pub live_fault : (requests : Option (List ℕ)) (qs : List Request) (r : Result ℕ RunError) → IfSome requests (λ bytes. AreRequestsOf (rows_of bytes) qs)
    → IfErr r (IsRunFault (λ index version. (index < length qs) × (0 < version))) → IfErr r (IsLiveFault requests)
live_fault requests qs r asked fault = search (rules, length-map)
