-- Once the replies' lines are read and compared with the right replies, their findings make an
-- audit.
use Rattle.std.proofs.Common.{◌≡◌, ℕ, suc, IsPermutation, Result, Ok, Err, IfOk, Bool, true, false, List, [], ◌∷◌, Some, inl, inr, refl, arith}
use Rattle.std.proofs.lemmas.List.Sorted.{Contains-permutation, IsPermutation-sym}
use Rattle.cspf_model.specs.Numbered.{NumberedChanges}
use Rattle.cspf_judge.specs.declared.audits.claim.Claim.{Claim}
use Rattle.cspf_judge.specs.declared.audits.finding.Finding.{Finding}
use Rattle.cspf_judge.specs.Asks.{AskSpec}
use Rattle.cspf_judge.specs.Audits.{AreUnansweredBy}
use Rattle.cspf_judge.specs.Reading.{AreClaims, AreOpenFindings, AreNamed, unnamed_faults}

-- ---- three properties of a result: the first two imply the third

pub both_ok : {A E : Type 0} {P Q R : A → Type 0} (r : Result A E) → IfOk r P → IfOk r Q → ((a : A) → P a → Q a → R a) → IfOk r R
both_ok (Ok a) p q f = f a p q
both_ok (Err e) p q f = tt

module _ {A : Type 0} (spec : AskSpec A) where
  -- ---- the claims are sorted

  module _ (requests : List A) (lines : List (List ℕ)) (claims sorted : List Claim) (shuffled : IsPermutation claims sorted) where
    pub claims_sorted : (last : ℕ) → AreClaims spec requests last lines claims → AreClaims spec requests last lines sorted
    claims_sorted last are claim there = are claim (Contains-permutation sorted claims claim (IsPermutation-sym claims sorted shuffled) there)

    pub open_sorted : (batches : List NumberedChanges) (findings : List Finding) → AreOpenFindings spec batches requests lines claims findings → AreOpenFindings spec batches requests lines sorted findings
    open_sorted batches findings open_ones = record {
      counted = open_ones.counted;
      each = λ index line found is_line is_found. elim (open_ones.each index line found is_line is_found) [
        | inl is ↦ inl is
        | inr claimed ↦ inr (claimed.0, (claimed.1.0, Contains-permutation claims sorted claimed.1.0 shuffled claimed.1.1, claimed.1.2))
      ];
    }

  -- ---- the requests whose ids no line has

  named_behind : (q : A) (requests : List A) (lines : List (List ℕ)) (b : Bool) (named : List Bool) → AreNamed spec (q ∷ requests) lines (b ∷ named) → AreNamed spec requests lines named
  named_behind q requests lines b named are = record { counted = omega (arith, are.counted); each = λ index r there. are.each (suc index) r there }

  pub are_unanswered : (requests : List A) (lines : List (List ℕ)) (named : List Bool) → AreNamed spec requests lines named → AreUnansweredBy spec lines requests (unnamed_faults spec.id requests named)
  are_unanswered [] lines named are = refl
  are_unanswered (q ∷ requests) lines [] are = absurd (omega (arith, are.counted))
  are_unanswered (q ∷ requests) lines (true ∷ named) are = inl ((are.each 0 q refl).0 refl, are_unanswered requests lines named (named_behind q requests lines true named are))
  are_unanswered (q ∷ requests) lines (false ∷ named) are =
      inr ((λ now. let no : Some false ≡ Some true = (are.each 0 q refl).1 now in cc), (unnamed_faults spec.id requests named, refl, are_unanswered requests lines named (named_behind q requests lines false named are)))
