-- The lines that a run over a journal and requests wrote before it ended by an error.
use Rattle.std.proofs.Common.{◌≡◌, ℕ, zero, Bool, Option, Some, None, IfSome, List, [], ◌++◌, take, length, inl, inr, refl, sym, append-nil, Result, Err, OnErr, rules, Ok}
use Rattle.std.specs.Io.KnownBytes.{Appends}
use Rattle.cspf_model.specs.declared.request.Request.{Request}
use Rattle.cspf_model.specs.Numbered.{NumberedChanges}
use Rattle.cspf_model.specs.Changes.{database_after, AreLawful}
use Rattle.cspf_rows.specs.Records.{rows_of}
use Rattle.cspf_judge.proofs.Fronts.{front_before, front_behind}
use Rattle.cspf_judge.specs.declared.line.JudgeLine.{JudgeLine}
use Rattle.cspf_judge.specs.declared.early_end.EarlyEnd.{EarlyEnd}
use Rattle.cspf_judge.specs.declared.early_end.EarlyEnd.TheVariants as early_end
use Rattle.cspf_judge.specs.EarlyEnds.{HasBegun, IfRefused, IsRefusalBegun, WritesFront}
use Rattle.cspf_judge.specs.Inputs.{AreRequestsOf}
use Rattle.cspf_judge.specs.LineTexts.{judge_line_text}
use Rattle.cspf_serve.specs.declared.streams.error.RunError.{RunError}
use Rattle.cspf_serve.specs.BatchRun.{AreReplies, IsBatchRunInPart, version_lines}
use Rattle.cspf_serve.specs.EarlyEnds.{AreStreamsRefused}
use Rattle.cspf_serve.specs.PublishedBatches.{ArePublishedOrRefused, IsAcceptedInPart}
use Rattle.cspf_serve.proofs.Begun.{begun_behind, begun_weaker}
use Rattle.cspf_serve.proofs.BatchLines.{IsPublished, one_unfit, refused_alone}

-- the lines of all versions, followed by the replies to the first `count` requests, are lines that
-- `IsAcceptedInPart` allows
accepted_in_part : (batches : List NumberedChanges) (requests : List Request) (count : ℕ) (replies : List ℕ) → AreLawful batches
    → AreReplies (database_after batches) (length batches) (take count requests) replies
    → IsAcceptedInPart batches requests (version_lines batches ++ replies)
accepted_in_part batches requests count replies lawful answered =
    inl (count, record { lawful = lawful; replies = replies; answered = answered; whole = refl })

module _ (batches published : List NumberedChanges) (requests : List Request) (old mid new : Option (List ℕ)) (lawful : AreLawful published) where
  -- if a prefix of the versions' lines is written, it is a prefix of the lines of a run over these
  -- batches
  pub versions_begun : (unfit : Option JudgeLine) → ArePublishedOrRefused batches published unfit → WritesFront old new (version_lines published)
      → HasBegun old new (IsAcceptedInPart batches requests)
  versions_begun None same begun =
      rw (← same) (inr (version_lines published ++ [], accepted_in_part published requests zero [] lawful refl, front_before old new (version_lines published) [] begun))
  versions_begun (Some line) unfit begun =
      let text = judge_line_text line in
      inr (version_lines published ++ text, inr (one_unfit batches published text unfit lawful), front_before old new (version_lines published) text begun)

  -- The lines of the versions are written, and then a prefix of the line that refuses the batch
  -- that doesn't fit. This output is a prefix of the lines of a run over these batches.
  pub unfit_begun : (line : JudgeLine) → ArePublishedOrRefused batches published (Some line) → Appends old mid (version_lines published)
      → WritesFront mid new (judge_line_text line) → HasBegun old new (IsAcceptedInPart batches requests)
  unfit_begun line unfit versions begun =
      let text = judge_line_text line in
      inr (version_lines published ++ text, inr (one_unfit batches published text unfit lawful), front_behind old mid new (version_lines published) text versions begun)

-- The lines of all versions are written, and then a prefix of the replies to the first requests.
-- This output is a prefix of the lines of a run over these batches.
pub replies_begun : (batches : List NumberedChanges) (requests : List Request) (old mid new : Option (List ℕ)) → AreLawful batches
    → Appends old mid (version_lines batches)
    → HasBegun mid new (λ lines. (count : ℕ) × AreReplies (database_after batches) (length batches) (take count requests) lines)
    → HasBegun old new (IsAcceptedInPart batches requests)
replies_begun batches requests old mid new lawful versions begun =
    let replies : List ℕ → Type 0 = λ lines. (count : ℕ) × AreReplies (database_after batches) (length batches) (take count requests) lines in
    begun_behind old mid new (version_lines batches) replies (IsAcceptedInPart batches requests) versions
    (rw append-nil at (accepted_in_part batches requests zero [] lawful refl))
    (λ lines is. accepted_in_part batches requests is.0 lines lawful is.1) begun

-- ---- the whole run

-- what a run over a journal and requests wrote before it ended by an error
abbrev pub IsBegunRun : Bool → Option (List ℕ) → Option (List ℕ) → Option (List ℕ) → Option (List ℕ) → Type 0
IsBegunRun accept_torn kept asked old new =
    IfSome kept (λ journal. IfSome asked (λ requests. HasBegun old new (IsBatchRunInPart accept_torn (rows_of journal) (rows_of requests))))

-- `IsBegunRun` holds of a run that wrote nothing
pub nothing_begun : (accept_torn : Bool) (kept asked old : Option (List ℕ)) → IsBegunRun accept_torn kept asked old old
nothing_begun accept_torn kept asked old = search rules

module _ (accept_torn : Bool) (published : List NumberedChanges) (unfit : Option JudgeLine) (qs : List Request) (old new : Option (List ℕ)) where
  begun_of : (kept asked : Option (List ℕ)) → IsPublished accept_torn kept published unfit → IfSome asked (λ bytes. AreRequestsOf (rows_of bytes) qs)
      → ((batches : List NumberedChanges) → ArePublishedOrRefused batches published unfit → HasBegun old new (IsAcceptedInPart batches qs))
      → IsBegunRun accept_torn kept asked old new
  begun_of (Some journal) (Some requests) read of_rows begun =
      begun_weaker old new (IsAcceptedInPart read.0 qs) (IsBatchRunInPart accept_torn (rows_of journal) (rows_of requests))
      (λ lines is. elim is [
        | inl accepted ↦ inr (read.0, read.1, (qs, of_rows, accepted))
        | inr one ↦ inl (inr (read.0, read.1, inr (qs, of_rows, inr (one, refl))))
      ]) (begun read.0 read.2)
  begun_of kept asked read of_rows begun = tt

  -- if a run ends by an error while it answers requests, `IsBegunRun` holds of the run
  pub batch_begun : (kept asked : Option (List ℕ)) (r : Result ℕ RunError) → IsPublished accept_torn kept published unfit
      → IfSome asked (λ bytes. AreRequestsOf (rows_of bytes) qs)
      → OnErr r ((batches : List NumberedChanges) → ArePublishedOrRefused batches published unfit → HasBegun old new (IsAcceptedInPart batches qs))
      → OnErr r (IsBegunRun accept_torn kept asked old new)
  batch_begun kept asked r read h2 begun = search (rules, begun_of)

-- A run ends by an error, and it wrote at most a prefix of the line that refuses a stream. Then
-- `IsBegunRun` holds of the run.
pub run_refused_begun : (accept_torn : Bool) (kept asked : Option (List ℕ)) (s : EarlyEnd) (r : Result ℕ RunError) (old new : Option (List ℕ))
    → IfRefused s (λ line. IfSome kept (λ journal. IfSome asked (λ requests. AreStreamsRefused accept_torn (rows_of journal) (rows_of requests) line)))
    → OnErr r (IsRefusalBegun s old new) → OnErr r (IsBegunRun accept_torn kept asked old new)
run_refused_begun accept_torn kept asked s (Ok status) old new refused begun = tt
run_refused_begun accept_torn None asked s (Err e) old new refused begun = tt
run_refused_begun accept_torn (Some journal) None s (Err e) old new refused begun = tt
run_refused_begun accept_torn (Some journal) (Some requests) (early_end.Failed error) (Err e) old new refused begun = inl begun
run_refused_begun accept_torn (Some journal) (Some requests) (early_end.Refused line) (Err e) old new refused begun =
    inr (judge_line_text line, inl (refused_alone accept_torn (rows_of journal) (rows_of requests) (judge_line_text line) refused), begun)
