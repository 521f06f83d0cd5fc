-- Batches are applied in order, one after the other.
use Rattle.std.proofs.Common.{◌≡◌, ℕ, ◌<◌, List, length, take, Option, Some, None, slice_get, refl, sym, ap, ◌∙◌, subst, arith}
use Rattle.cspf_model.specs.Numbered.{NumberedChanges}
use Rattle.cspf_publish.specs.PublisherStates.{PublisherState}
use Rattle.cspf_publish.specs.ApplyErrors.{IsApplyError}
use Rattle.cspf_publish.specs.declared.errors.ApplyError.{ApplyError}
use Rattle.cspf_work.specs.Applied.{AreApplied, IsAppliedUpTo}

-- if the first `n` batches are applied and the next batch is refused, `IsAppliedUpTo` holds with
-- `n` applied batches
pub applied_refused : {W : Type 0} (contents : W → Option (List ℕ)) (p q r : PublisherState W) (batches : List NumberedChanges) (applied n : ℕ) (b : NumberedChanges) (e : ApplyError)
    → applied ≡ n → n < length batches → slice_get batches n ≡ Some b → r.source ≡ q.source → r.batches ≡ q.batches → IsApplyError contents q r b e
    → AreApplied contents p q (take n batches) → IsAppliedUpTo contents p r batches applied (Some e)
applied_refused contents p q r batches applied n b e count inside at source same why is =
    let first : AreApplied contents p q (take applied batches) = subst (λ m. AreApplied contents p q (take m batches)) (sym count) is in
    record {
      inside = omega arith;
      source = source ∙ is.source;
      published = same ∙ first.published;
      between = q;
      first = first;
      stop = (b, ap (slice_get batches) count ∙ at, why);
    }

-- if all batches are applied, `IsAppliedUpTo` holds of the whole list, without an error
pub applied_all : {W : Type 0} (contents : W → Option (List ℕ)) (p q : PublisherState W) (batches : List NumberedChanges) (applied n : ℕ)
    → applied ≡ n → n ≡ length batches → AreApplied contents p q (take n batches) → IsAppliedUpTo contents p q batches applied None
applied_all contents p q batches applied n count all is =
    let first : AreApplied contents p q (take applied batches) = subst (λ m. AreApplied contents p q (take m batches)) (sym count) is in
    record {
      inside = omega arith;
      source = is.source;
      published = first.published;
      between = q;
      first = first;
      stop = (count ∙ all, refl);
    }
