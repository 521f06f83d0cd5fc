-- The output of an audit run is the lines of an audit, or the line that refuses the streams.
use Rattle.std.proofs.Common.{◌≡◌, ℕ, Option, List, Result, Ok, Err, IfOk, OnOk, OnErr, IfSome, inl, inr, refl}
use Rattle.std.specs.Io.KnownBytes.{Appends}
use Rattle.cspf_rows.specs.Records.{rows_of, Records}
use Rattle.cspf_judge.specs.declared.audits.faults.Audit.{Audit}
use Rattle.cspf_judge.specs.AuditRun.{IsAuditRunBy, audit_lines, audit_status}
use Rattle.cspf_judge.specs.EarlyEnds.{IfRefused, HasBegun, IsRefusalBegun, IsRefusalWritten, Writes}
use Rattle.cspf_judge.specs.LineTexts.{judge_line_text}
use Rattle.cspf_judge.specs.declared.early_end.EarlyEnd.{EarlyEnd}
use Rattle.cspf_judge.specs.declared.early_end.EarlyEnd.TheVariants as early_end
use Rattle.cspf_judge.specs.declared.early_end.JudgeError.{JudgeError}

module _ {E : Type 0} (is_audit : Records → Records → List ℕ → Audit → Type 0) (is_line : E → List ℕ → Type 0) (is_error : Option (List ℕ) → Option (List ℕ) → Option (List ℕ) → E → Type 0)
    (old new journal requests replies : Option (List ℕ)) where
  pub audited : (result : Result ℕ JudgeError) (audit : Audit) → IfOk result (λ status. status ≡ audit_status audit) → OnOk result (Appends old new (audit_lines audit))
      → IfSome journal (λ kept. IfSome requests (λ asked. IfSome replies (λ said. is_audit (rows_of kept) (rows_of asked) said audit)))
      → IfOk result (λ status. Writes old new (λ lines. IsAuditRunBy is_audit is_line is_error journal requests replies lines status))
  audited (Ok status) audit is_status text whole = (audit_lines audit, inl (audit, refl, is_status, whole), text)
  audited (Err e) audit is_status text whole = tt

  pub unaudited : (result : Result ℕ JudgeError) (end : EarlyEnd) (why : E) → IfRefused end (is_line why) → is_error journal requests replies why
      → IfOk result (λ status. status ≡ 2) → IfOk result (λ status. IsRefusalWritten end old new)
      → IfOk result (λ status. Writes old new (λ lines. IsAuditRunBy is_audit is_line is_error journal requests replies lines status))
  unaudited (Ok status) (early_end.Refused line) why is_its because is_status text = (judge_line_text line, inr (why, is_its, is_status, because), text)
  unaudited (Ok status) (early_end.Failed error) why is_its because is_status text = absurd text
  unaudited (Err e) end why is_its because is_status text = tt

  pub unaudited_begun : {T : Type 0} (result : Result T JudgeError) (end : EarlyEnd) (why : E) → IfRefused end (is_line why) → is_error journal requests replies why
      → OnErr result (IsRefusalBegun end old new)
      → OnErr result (HasBegun old new (λ lines. (status : ℕ) × IsAuditRunBy is_audit is_line is_error journal requests replies lines status))
  unaudited_begun (Ok x) end why is_its because begun = tt
  unaudited_begun (Err e) (early_end.Refused line) why is_its because begun = inr (judge_line_text line, (2, inr (why, is_its, refl, because)), begun)
  unaudited_begun (Err e) (early_end.Failed error) why is_its because begun = inl begun
