-- The findings of the replies' lines, and the claims (lines still to be compared with right
-- replies), change as the lines are read one after the other.
use Rattle.std.proofs.Common.{◌≡◌, ℕ, ◌+◌, ◌<◌, ◌⊎◌, suc, zero, List, [], ◌∷◌, ◌++◌, Contains, Some, length, take, get_or, inl, inr, refl, sym, ap, ◌∙◌, length-append, arith}
use Rattle.std.proofs.lemmas.List.{take_at, take-append-le}
use Rattle.std.proofs.lemmas.List.Elements.{Contains-append_left, Contains-append_right, Contains-append_cases}
use Rattle.std.proofs.lemmas.Grind.{take_at_read}
use Rattle.std.proofs.lemmas.Option.{slice_get_within}
use Rattle.std.specs.List.{slice_get}
use Rattle.cspf_model.specs.Numbered.{NumberedChanges}
use Rattle.cspf_judge.specs.declared.audits.claim.Claim.{Claim}
use Rattle.cspf_judge.specs.declared.audits.finding.Finding.{Finding}
use Rattle.cspf_judge.specs.declared.audits.finding.Finding.TheVariants as finding
use Rattle.cspf_judge.specs.Asks.{AskSpec}
use Rattle.cspf_judge.specs.Findings.{IsFindingBy, IsNamedBy}
use Rattle.cspf_judge.specs.Reading.{IsClaim, IsClaimed, AreOpenFindings}

-- the first `i` lines, followed by the line at index `i`, are the first `i + 1` lines
pub take_line : {A : Type 0} (lines : List A) (i : ℕ) (line text : A) → i < length lines → line ≡ get_or lines i line → text ≡ line → take i lines ++ text ∷ [] ≡ take (i + 1) lines
take_line lines i line text within is same = ap (λ t. take i lines ++ t ∷ []) (same ∙ is) ∙ sym (take_at_read lines i line within).1

get_more : {A : Type 0} (xs ys : List A) (i : ℕ) (x : A) → slice_get xs i ≡ Some x → slice_get (xs ++ ys) i ≡ Some x
get_more [] ys i x found = absurd (cc)
get_more (y ∷ xs) ys zero x found = found
get_more (y ∷ xs) ys (suc i) x found = get_more xs ys i x found

get_snoc : {A : Type 0} (xs : List A) (x : A) (i : ℕ) (y : A) → slice_get (xs ++ x ∷ []) i ≡ Some y
    → ((i < length xs) × (slice_get xs i ≡ Some y)) ⊎ ((i ≡ length xs) × (x ≡ y))
get_snoc [] x zero y found = inr (refl, cc)
get_snoc [] x (suc i) y found = absurd (cc)
get_snoc (z ∷ xs) x zero y found = inl (omega arith, found)
get_snoc (z ∷ xs) x (suc i) y found = elim (get_snoc xs x i y found) [
  | inl before ↦ inl (omega (arith, before.0), before.1)
  | inr last ↦ inr (ap suc last.0, last.1)
]

claimed_more : (claims more : List Claim) (index : ℕ) → IsClaimed claims index → IsClaimed (claims ++ more) index
claimed_more claims more index claimed = (claimed.0, Contains-append_left claims more claimed.0 claimed.1, claimed.2)

module _ {A : Type 0} (spec : AskSpec A) where
  -- a claim that is right for the lines so far is still right after one more line
  pub claim_more : (requests : List A) (last : ℕ) (seen : List (List ℕ)) (line : List ℕ) (claim : Claim) → IsClaim spec requests last seen claim → IsClaim spec requests last (seen ++ line ∷ []) claim
  claim_more requests last seen line claim is =
      let within = slice_get_within seen claim.line is.line is.is_line in record {
        line = is.line;
        q = is.q;
        is_line = get_more seen (line ∷ []) claim.line is.line is.is_line;
        is_request = is.is_request;
        first = rw (take-append-le claim.line seen (line ∷ []) (omega (arith, within))) is.first;
        within = is.within;
      }

  -- Each line so far has its right finding, or it is still to be compared with the right reply. If
  -- this also holds of one more line, it holds of all these lines.
  pub found_more : (batches : List NumberedChanges) (requests : List A) (seen : List (List ℕ)) (line : List ℕ) (claims more : List Claim) (findings : List Finding) (found : Finding)
      → AreOpenFindings spec batches requests seen claims findings
      → IsFindingBy spec batches requests seen line found ⊎ ((found ≡ finding.Good) × IsClaimed (claims ++ more) (length seen))
      → AreOpenFindings spec batches requests (seen ++ line ∷ []) (claims ++ more) (findings ++ found ∷ [])
  found_more batches requests seen line claims more findings found open_ones next = record {
    counted = rw (length-append findings (found ∷ []), length-append seen (line ∷ []), open_ones.counted) refl;
    each = λ index l f is_line is_found. go index l f (get_snoc seen line index l is_line) (get_snoc findings found index f is_found);
  }
    where
      settled : (index : ℕ) (l : List ℕ) (f : Finding) → index < length seen
          → IsFindingBy spec batches requests (take index seen) l f ⊎ ((f ≡ finding.Good) × IsClaimed claims index)
          → IsFindingBy spec batches requests (take index (seen ++ line ∷ [])) l f ⊎ ((f ≡ finding.Good) × IsClaimed (claims ++ more) index)
      settled index l f within (inl is) = inl (rw (take-append-le index seen (line ∷ []) (omega (arith, within))) is)
      settled index l f within (inr (good, claimed)) = inr (good, claimed_more claims more index claimed)

      go : (index : ℕ) (l : List ℕ) (f : Finding) → ((index < length seen) × (slice_get seen index ≡ Some l)) ⊎ ((index ≡ length seen) × (line ≡ l))
          → ((index < length findings) × (slice_get findings index ≡ Some f)) ⊎ ((index ≡ length findings) × (found ≡ f))
          → IsFindingBy spec batches requests (take index (seen ++ line ∷ [])) l f ⊎ ((f ≡ finding.Good) × IsClaimed (claims ++ more) index)
      go index l f (inl one) (inl other) = settled index l f one.0 (open_ones.each index l f one.1 other.1)
      go index l f (inl one) (inr other) = absurd (omega (arith, one.0, other.0, open_ones.counted))
      go index l f (inr one) (inl other) = absurd (omega (arith, one.0, other.0, open_ones.counted))
      go index l f (inr one) (inr other) = rw (one.0, sym one.1, sym other.1, take_at seen (line ∷ []) (length seen) refl) next

  -- After one more line, one of the lines has this id. Then an earlier line has the id, or the new
  -- line has it.
  pub named_cases : (seen : List (List ℕ)) (line : List ℕ) (id : ℕ) → IsNamedBy spec (seen ++ line ∷ []) id
      → IsNamedBy spec seen id ⊎ ((version : ℕ) × spec.begins line (record { id = id; version = version }))
  named_cases seen line id (l, version, there, begins) = elim (Contains-append_cases seen (line ∷ []) l there) [
    | inl before ↦ inl (l, version, before, begins)
    | inr last ↦ inr (version, rw (only last) begins)
  ]
    where
      only : Contains (line ∷ []) l → line ≡ l
      only (zero, within, is) = is
      only (suc k, within, is) = absurd (omega arith)

  pub named_before : (seen : List (List ℕ)) (line : List ℕ) (id : ℕ) → IsNamedBy spec seen id → IsNamedBy spec (seen ++ line ∷ []) id
  named_before seen line id (l, version, there, begins) = (l, version, Contains-append_left seen (line ∷ []) l there, begins)

  pub named_last : (seen : List (List ℕ)) (line : List ℕ) (id version : ℕ) → spec.begins line (record { id = id; version = version }) → IsNamedBy spec (seen ++ line ∷ []) id
  named_last seen line id version begins = (line, version, Contains-append_right seen (line ∷ []) line (0, omega arith, refl), begins)
