-- Private: which batches of a journal are published, and which lines are written for them.
use Rattle.std.specs.Prelude.{◌≡◌, ℕ, ◌⊎◌, Option, Some, None, List, ◌∷◌, ◌++◌, take}
use Rattle.cspf_model.specs.declared.refusal.Refusal.{Refusal}
use Rattle.cspf_model.specs.Numbered.{NumberedChanges}
use Rattle.cspf_model.specs.Changes.{database_after}
use Rattle.cspf_model.specs.Refusals.{IsRefusal}
use Rattle.cspf_stream.specs.declared.batch_refusal.BatchRefusal.TheVariants as refusal
use Rattle.cspf_judge.specs.declared.line.JudgeLine.{JudgeLine}
use Rattle.cspf_judge.specs.LineTexts.{judge_line_text}
use Rattle.cspf_model.specs.declared.request.Request.{Request}
use Rattle.cspf_stream.specs.Lines.{refused_batch_line}
use Rattle.cspf_serve.specs.BatchRun.{AreAccepted, IsOneUnfit}

-- the first batch after the published batches doesn't fit, and the line refuses it
pub record IsUnfitBehind (batches published : List NumberedChanges) (line : List ℕ) : Type 0 where
  pub batch : NumberedChanges
  pub after : List NumberedChanges
  pub split : batches ≡ published ++ (batch ∷ after)
  pub why : Refusal
  pub refused : IsRefusal (database_after published) batch why
  pub is_line : line ≡ refused_batch_line batch.number (refusal.Unfit why)

-- Without a line (`None`), all batches are published. With a line, only the batches before the
-- first batch that doesn't fit are published, and the line refuses that batch.
abbrev pub ArePublishedOrRefused : List NumberedChanges → List NumberedChanges → Option JudgeLine → Type 0
ArePublishedOrRefused batches published None = published ≡ batches
ArePublishedOrRefused batches published (Some line) = IsUnfitBehind batches published (judge_line_text line)

-- all batches are accepted and the requests are answered, or one of the batches doesn't fit
abbrev pub IsAcceptedOrUnfit : List NumberedChanges → List Request → List ℕ → ℕ → Type 0
IsAcceptedOrUnfit batches requests lines status =
    (AreAccepted batches requests lines × (status ≡ 0)) ⊎ (IsOneUnfit batches lines × (status ≡ 2))

-- all batches are accepted and a prefix of the requests is answered, or one of the batches doesn't
-- fit
abbrev pub IsAcceptedInPart : List NumberedChanges → List Request → List ℕ → Type 0
IsAcceptedInPart batches requests lines =
    ((count : ℕ) × AreAccepted batches (take count requests) lines) ⊎ IsOneUnfit batches lines
