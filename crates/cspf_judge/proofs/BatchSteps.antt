-- The database of the first `i` batches of a journal, and the plans of these batches, when the next
-- batch is added.
use Rattle.std.proofs.Common.{◌≡◌, ℕ, ◌+◌, ◌<◌, List, [], ◌∷◌, ◌++◌, length, take, get_or, inl, inr, sym, ap, subst, ◌∙◌, arith}
use Rattle.std.proofs.lemmas.Bool.{cases_eq}
use Rattle.std.proofs.lemmas.List.{get_or_at, get_or_append_left, get_or_default, length_push}
use Rattle.std.proofs.lemmas.Grind.{take_at_read}
use Rattle.cspf_model.specs.Numbered.{NumberedChanges}
use Rattle.cspf_model.specs.Database.{Database}
use Rattle.cspf_model.specs.Changes.{AreLawful, Fits, after_changes, database_after}
use Rattle.cspf_model.specs.Laws.{OneMoreBatch, LawfulByOneMore}
use Rattle.cspf_db.specs.declared.table.plan.Plan.{Plan}
use Rattle.cspf_db.specs.Plans.{IsPlanOf}
use Rattle.cspf_judge.specs.Reading.{ArePlansUpTo}

module _ (batches : List NumberedChanges) (i : ℕ) (b : NumberedChanges) (within : i < length batches) (is_next : b ≡ get_or batches i b) where
  one_more : take (i + 1) batches ≡ take i batches ++ b ∷ []
  one_more = (take_at_read batches i b within).1 ∙ ap (λ next. take i batches ++ next ∷ []) (sym is_next)

  -- The batch at index `i` makes its changes in the database of the first `i` batches. The result
  -- is the database of the first `i + 1` batches.
  pub database_next : OneMoreBatch → after_changes (database_after (take i batches)) b.changes ≡ database_after (take (i + 1) batches)
  database_next law = sym (ap database_after one_more ∙ law (take i batches) b)

  -- If the first `i` batches are lawful and the next batch fits their database, the first `i + 1`
  -- batches are lawful. A list of batches is lawful if each fits the database of the batches before
  -- it.
  pub lawful_next : LawfulByOneMore → AreLawful (take i batches) → Fits (database_after (take i batches)) b → AreLawful (take (i + 1) batches)
  lawful_next law lawful fits = subst AreLawful (sym one_more) ((law (take i batches) b).1 (lawful, fits))

  -- A table with the database of the first `i` batches absorbs the next batch. Then it has the
  -- database of the first `i + 1` batches.
  pub absorbed : OneMoreBatch → (before after : Database) → before ≡ database_after (take i batches) → after ≡ after_changes before b.changes → after ≡ database_after (take (i + 1) batches)
  absorbed law before after here absorbs = absorbs ∙ ap (λ d. after_changes d b.changes) here ∙ database_next law

  -- the plans of the first `i` batches, followed by the plan of the next batch, are the plans of
  -- the first `i + 1` batches
  pub one_more_plan : (plans : List Plan) (plan : Plan) → ArePlansUpTo batches plans i → IsPlanOf (database_after (take i batches)) b plan → ArePlansUpTo batches (plans ++ plan ∷ []) (i + 1)
  one_more_plan plans plan are is = record {
    many = omega (arith, length_push plans plan, are.many);
    each = λ k a d below read. elim (cases_eq k i) [
      | inl same ↦
          let one : b ≡ a = subst (λ n. b ≡ get_or batches n a) (sym same) (is_next ∙ get_or_default batches i b a within) ∙ sym read in
          let placed : plan ≡ get_or (plans ++ plan ∷ []) k d = sym (get_or_at plans plan [] d k (are.many ∙ sym same)) in
          subst (λ p. IsPlanOf (database_after (take k batches)) a p) placed
          (subst (λ n. IsPlanOf (database_after (take n batches)) a plan) (sym same) (subst (λ c. IsPlanOf (database_after (take i batches)) c plan) one is))
      | inr apart ↦
          let before : k < i = omega (arith, below, apart) in
          subst (IsPlanOf (database_after (take k batches)) a) (sym (get_or_append_left plans (plan ∷ []) d k (omega (arith, before, are.many)))) (are.each k a d before read)
    ];
  }
