-- Each line that has a claim is compared with the right reply. A claim says that a line is still to
-- be compared.
use Rattle.std.proofs.Common.{◌≡◌, ℕ, ◌<◌, ◌⊎◌, Bool, suc, zero, List, [], ◌∷◌, Some, length, take, get_or, inl, inr, refl, sym, ap, subst, ◌∙◌, arith}
use Rattle.std.proofs.lemmas.Bool.{cases_eq}
use Rattle.std.proofs.lemmas.List.{length-set, get_or_default}
use Rattle.std.proofs.lemmas.Option.{slice_get_within, slice_get-get_or}
use Rattle.std.specs.List.{slice_get, slice_set}
use Rattle.cspf_model.specs.Numbered.{NumberedChanges}
use Rattle.cspf_model.specs.Database.{Database}
use Rattle.cspf_model.specs.Changes.{database_after}
use Rattle.cspf_judge.specs.declared.audits.claim.Claim.{Claim}
use Rattle.cspf_judge.specs.declared.audits.finding.Finding.{Finding}
use Rattle.cspf_judge.specs.declared.audits.finding.Finding.TheVariants as finding
use Rattle.cspf_judge.specs.Asks.{AskSpec, IsJudged}
use Rattle.cspf_judge.specs.Findings.{IsFindingBy, AreFindingsBy}
use Rattle.cspf_judge.proofs.Lookups.{one_element, get-set_same, get-set_other}
use Rattle.cspf_judge.specs.Reading.{IsClaim, IsClaimed, AreClaims, AreOpenFindings}

read_at : {A : Type 0} (xs : List A) (i : ℕ) (x : A) → i < length xs → x ≡ get_or xs i x → slice_get xs i ≡ Some x
read_at xs i x within is = slice_get-get_or xs i x within ∙ ap Some (sym is)

-- if one of these claims is of the line at this index, it is the first claim or a later claim
claimed_behind : (claim : Claim) (rest : List Claim) (index : ℕ) → IsClaimed (claim ∷ rest) index → (claim.line ≡ index) ⊎ IsClaimed rest index
claimed_behind claim rest index (c, (zero, within, is), at) = inl (ap (λ (k : Claim). k.line) is ∙ at)
claimed_behind claim rest index (c, (suc k, within, is), at) = inr (c, (k, omega arith, is), at)

module _ {A : Type 0} (spec : AskSpec A) where
  -- if `IsClaim spec` holds of each claim of a list (`AreClaims spec`), it holds of the claim at each index of
  -- the list
  pub claim_at : (requests : List A) (last : ℕ) (lines : List (List ℕ)) (claims : List Claim) (i : ℕ) (d : Claim) → AreClaims spec requests last lines claims → i < length claims
      → IsClaim spec requests last lines (get_or claims i d)
  claim_at requests last lines claims i d are within = are (get_or claims i d) (i, within, get_or_default claims i (get_or claims i d) d within)

  -- A claim gives the index of a request and the index of a line. Both indexes are within their
  -- lists.
  pub claim_within : (requests : List A) (last : ℕ) (lines : List (List ℕ)) (claims : List Claim) (i : ℕ) (d : Claim) → AreClaims spec requests last lines claims → i < length claims
      → ((get_or claims i d).request < length requests) × ((get_or claims i d).line < length lines)
  claim_within requests last lines claims i d are within =
      let is = claim_at requests last lines claims i d are within in
      (slice_get_within requests (get_or claims i d).request is.q is.is_request, slice_get_within lines (get_or claims i d).line is.line is.is_line)

  module _ (batches : List NumberedChanges) (requests : List A) (lines : List (List ℕ)) (claim : Claim) (rest : List Claim) (findings : List Finding)
      (open_ones : AreOpenFindings spec batches requests lines (claim ∷ rest) findings) (is_claim : IsClaim spec requests (length batches) lines claim) where
    -- `right` says whether the audit finds that this line is the right reply to this request in this
    -- database. The database, the request and the line are those of the claim. So `right` also says
    -- it of the claim's line.
    pub asked_of_claim : (d : Database) (q : A) (line : List ℕ) (right : Bool) → d ≡ database_after (take claim.version batches)
        → claim.request < length requests → q ≡ get_or requests claim.request q → claim.line < length lines → line ≡ get_or lines claim.line line
        → IsJudged spec d q claim.version line right
        → IsJudged spec (database_after (take claim.version batches)) is_claim.q claim.version is_claim.line right
    asked_of_claim d q line right here asked is_q there is_line test =
        let same_q : q ≡ is_claim.q = one_element requests claim.request claim.request q is_claim.q (read_at requests claim.request q asked is_q) is_claim.is_request refl in
        let same_line : line ≡ is_claim.line = one_element lines claim.line claim.line line is_claim.line (read_at lines claim.line line there is_line) is_claim.is_line refl in
        subst (λ e. IsJudged spec e is_claim.q claim.version is_claim.line right) here
        (subst (λ r. IsJudged spec d r claim.version is_claim.line right) same_q
        (subst (λ l. IsJudged spec d q claim.version l right) same_line test))

    -- if the line of the first claim is the right reply, only the lines of the later claims are still
    -- to be compared
    pub right_step : spec.answers (database_after (take claim.version batches)) is_claim.q claim.version is_claim.line → AreOpenFindings spec batches requests lines rest findings
    right_step right = record { counted = open_ones.counted; each = λ index line found is_line is_found. go index line found is_line (open_ones.each index line found is_line is_found) }
      where
        go : (index : ℕ) (line : List ℕ) (found : Finding) → slice_get lines index ≡ Some line
            → IsFindingBy spec batches requests (take index lines) line found ⊎ ((found ≡ finding.Good) × IsClaimed (claim ∷ rest) index)
            → IsFindingBy spec batches requests (take index lines) line found ⊎ ((found ≡ finding.Good) × IsClaimed rest index)
        go index line found is_line (inl settled) = inl settled
        go index line found is_line (inr (good, claimed)) = settle (claimed_behind claim rest index claimed)
          where
            settle : (claim.line ≡ index) ⊎ IsClaimed rest index → IsFindingBy spec batches requests (take index lines) line found ⊎ ((found ≡ finding.Good) × IsClaimed rest index)
            settle (inr behind) = inr (good, behind)
            settle (inl here) =
                let same : is_claim.line ≡ line = one_element lines claim.line index is_claim.line line is_claim.is_line is_line here in
                inl (rw (good, sym here, sym same) (is_claim.q, claim.version, is_claim.first, is_claim.within, right))

  module _ (batches : List NumberedChanges) (requests : List A) (lines : List (List ℕ)) (claim : Claim) (rest : List Claim) (findings : List Finding)
      (open_ones : AreOpenFindings spec batches requests lines (claim ∷ rest) findings) (is_claim : IsClaim spec requests (length batches) lines claim) where
    -- If the line of the first claim isn't the right reply, its finding becomes `Altered`. Then only
    -- the lines of the later claims are still to be compared.
    pub altered_step : spec.differs (database_after (take claim.version batches)) is_claim.q claim.version is_claim.line
        → AreOpenFindings spec batches requests lines rest (slice_set findings claim.line finding.Altered)
    altered_step wrong = record {
      counted = length-set findings claim.line finding.Altered ∙ open_ones.counted;
      each = λ index line found is_line is_found. go index line found is_line is_found (cases_eq claim.line index);
    }
      where
        within : claim.line < length findings
        within = omega (arith, slice_get_within lines claim.line is_claim.line is_claim.is_line, open_ones.counted)

        go : (index : ℕ) (line : List ℕ) (found : Finding) → slice_get lines index ≡ Some line → slice_get (slice_set findings claim.line finding.Altered) index ≡ Some found
            → (claim.line ≡ index) ⊎ (claim.line ≡ index → ⊥)
            → IsFindingBy spec batches requests (take index lines) line found ⊎ ((found ≡ finding.Good) × IsClaimed rest index)
        go index line found is_line is_found (inl here) =
            let same : is_claim.line ≡ line = one_element lines claim.line index is_claim.line line is_claim.is_line is_line here in
            let altered : finding.Altered ≡ found = one_element (slice_set findings claim.line finding.Altered) claim.line index finding.Altered found (get-set_same findings claim.line finding.Altered within) is_found here in
            inl (rw (sym altered, sym here, sym same) (is_claim.q, claim.version, is_claim.first, is_claim.within, wrong))
        go index line found is_line is_found (inr apart) = behind (open_ones.each index line found is_line (sym (get-set_other findings claim.line index finding.Altered apart) ∙ is_found))
          where
            behind : IsFindingBy spec batches requests (take index lines) line found ⊎ ((found ≡ finding.Good) × IsClaimed (claim ∷ rest) index)
                → IsFindingBy spec batches requests (take index lines) line found ⊎ ((found ≡ finding.Good) × IsClaimed rest index)
            behind (inl settled) = inl settled
            behind (inr (good, claimed)) = elim (claimed_behind claim rest index claimed) [
              | inl here ↦ absurd (apart here)
              | inr more ↦ inr (good, more)
            ]

  -- if no claims are left, each line has its right finding
  pub all_settled : (batches : List NumberedChanges) (requests : List A) (lines : List (List ℕ)) (findings : List Finding)
      → AreOpenFindings spec batches requests lines [] findings → AreFindingsBy spec batches requests lines findings
  all_settled batches requests lines findings open_ones = record {
    counted = open_ones.counted;
    each = λ index line found is_line is_found. settle (open_ones.each index line found is_line is_found);
  }
    where
      settle : {P Q : Type 0} {index : ℕ} → P ⊎ (Q × IsClaimed [] index) → P
      settle (inl settled) = settled
      settle (inr (good, (c, (k, within, is), at))) = absurd (omega arith)
