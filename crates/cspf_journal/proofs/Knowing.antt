-- The known batches of a journal are a prefix of the batches that the known steps of this journal
-- record.
use Rattle.std.proofs.Common.{◌≡◌, ◌≤◌, ◌⊎◌, ℕ, zero, suc, max, List, [], ◌∷◌, ◌++◌, length, take, inl, inr, refl, sym, ap, subst, ◌∙◌, arith, append_assoc, ⊎_elim}
use Rattle.std.proofs.lemmas.List.{length-take-le}
use mathlib.Core.List.{IsPrefix}
use Rattle.cspf_model.specs.Laws.{FirstBatchesAreLawful}
use Rattle.cspf_model.specs.Numbered.{NumberedChanges}
use Rattle.cspf_journal.specs.Histories.{BeginsWith, IsHistory}
use Rattle.cspf_journal.specs.JournalSteps.{KnownSteps, batches_of, AreJournalSteps, AreStepsUpTo}
use Rattle.cspf_journal.specs.KnownBatches.{KnownBatches}
use Rattle.cspf_journal.specs.Readings.{CatchesUp}
use Rattle.cspf_journal.specs.declared.log_step.LogStep.{LogStep}
use Rattle.cspf_journal.specs.declared.log_step.LogStep.TheVariants.{Read}
use Rattle.cspf_journal.proofs.Prefixes.{BeginsWith-trans, BeginsWith-take, length-prefix, shorter, all_of, IsHistory-prefix}
use Rattle.cspf_journal.proofs.JournalSteps.{batches_of-prefix, finds_counts}

-- if `steps` is a prefix of `all`, the first `n` batches that `steps` records are a prefix of the
-- batches that `all` records
pub known_in : (n : ℕ) (steps all : List LogStep) → IsPrefix steps all → BeginsWith (batches_of all) (take n (batches_of steps))
known_in n steps all p = BeginsWith-trans (batches_of all) (batches_of steps) (take n (batches_of steps)) (batches_of-prefix steps all p) (BeginsWith-take n (batches_of steps))

-- if `steps` are the steps `seen`, then any further steps, and then one last step, each prefix of
-- `seen` is also a prefix of `steps`
pub IsPrefix-up_to : (first seen steps : List LogStep) (e : LogStep) → IsPrefix first seen → AreStepsUpTo seen steps e → IsPrefix first steps
IsPrefix-up_to first seen steps e pre up =
    let rest = up.0 ++ e ∷ [] in
    (pre.0 ++ rest, sym (append_assoc first pre.0 rest) ∙ (ap (λ (w : List LogStep). w ++ rest) pre.1 ∙ (sym (append_assoc seen up.0 (e ∷ [])) ∙ sym up.1)))

-- `raised` is the larger of `version` and `count`. If a reader knew `version` batches and reads the
-- count `count` of published batches, it then knows `raised` batches.
abbrev pub IsRaised : ℕ → ℕ → ℕ → Type 0
IsRaised version count raised = ((raised ≡ version) × (count ≤ version)) ⊎ ((raised ≡ count) × (version ≤ count))

pub IsRaised-max : (version count : ℕ) → IsRaised version count (max version count)
IsRaised-max zero count = inr (omega arith, omega arith)
IsRaised-max (suc version) zero = inl (omega arith, omega arith)
IsRaised-max (suc version) (suc count) =
    ⊎_elim (λ (t : (max version count ≡ version) × (count ≤ version)). inl (omega (arith, t.0), omega (arith, t.1))) (λ (t : (max version count ≡ count) × (version ≤ count)). inr (omega (arith, t.0), omega (arith, t.1))) (IsRaised-max version count)

pub raised-within : (version count raised : ℕ) (own steps : List LogStep) → IsRaised version count raised → version ≤ length (batches_of own) → IsPrefix own steps → count ≤ length (batches_of steps)
    → raised ≤ length (batches_of steps)
raised-within version count raised own steps is le pre within =
    let own_within = length-prefix (batches_of steps) (batches_of own) (batches_of-prefix own steps pre) in
    ⊎_elim (λ (t : (raised ≡ version) × (count ≤ version)). omega (arith, t.0, le, own_within)) (λ (t : (raised ≡ count) × (version ≤ count)). omega (arith, t.0, within)) is

pub IsHistory-raised : FirstBatchesAreLawful → (raised : ℕ) (steps : List LogStep) → AreJournalSteps steps → IsHistory (take raised (batches_of steps))
IsHistory-raised law raised steps journal = IsHistory-prefix law (batches_of steps) (take raised (batches_of steps)) (BeginsWith-take raised (batches_of steps)) journal.history

pub catches_up : (version reader place count raised : ℕ) (own : List LogStep) (before after : KnownBatches) (seen both steps : KnownSteps) → IsRaised version count raised
    → before.batches ≡ take version (batches_of own) → after.batches ≡ take raised (batches_of steps.steps) → after.source ≡ before.source → steps.source ≡ seen.source
    → version ≤ length (batches_of own) → IsPrefix seen.steps both.steps → IsPrefix own both.steps → AreStepsUpTo both.steps steps.steps (Read reader place count) → count ≤ length (batches_of steps.steps) → AreJournalSteps steps.steps
    → CatchesUp before after seen steps reader place count
catches_up version reader place count raised own before after seen both steps is were are source journal le seen_pre own_pre read within whole =
    let pre : IsPrefix own steps.steps = IsPrefix-up_to own both.steps steps.steps (Read reader place count) own_pre read in
    let up : AreStepsUpTo seen.steps steps.steps (Read reader place count) = (seen_pre.0 ++ read.0, read.1 ∙ ap (λ (w : List LogStep). w ++ Read reader place count ∷ []) (ap (λ (w : List LogStep). w ++ read.0) (sym seen_pre.1) ∙ append_assoc seen.steps seen_pre.0 read.0)) in
    let all = batches_of steps.steps in
    let mine = take version (batches_of own) in
    let now = take raised all in
    let raised_within : raised ≤ length all = raised-within version count raised own steps.steps is le pre within in
    let mine_length : length mine ≡ version = length-take-le version (batches_of own) le in
    let now_length : length now ≡ raised = length-take-le raised all raised_within in
    let some_more : version ≤ raised = ⊎_elim (λ (t : (raised ≡ version) × (count ≤ version)). omega (arith, t.0)) (λ (t : (raised ≡ count) × (version ≤ count)). omega (arith, t.0, t.1)) is in
    let begun : BeginsWith now mine = shorter mine now all (known_in version own steps.steps pre) (BeginsWith-take raised all) (omega (arith, mine_length, now_length, some_more)) in record {
      source = source;
      journal = journal;
      read = up;
      fresh = (finds_counts seen.steps steps.steps reader place count up whole).0;
      later = rw (were, are) begun;
      known = ⊎_elim (λ (t : (raised ≡ version) × (count ≤ version)). omega (arith, t.0, t.1, now_length, ap length are)) (λ (t : (raised ≡ count) × (version ≤ count)). omega (arith, t.0, now_length, ap length are)) is;
      recorded = rw are (BeginsWith-take raised all);
      only = ⊎_elim
          (λ (t : (raised ≡ version) × (count ≤ version)). inl (let same : mine ≡ now = all_of mine now begun (omega (arith, t.0, mine_length, now_length)) in let p : after.batches ≡ before.batches = are ∙ (sym same ∙ sym were) in λ i. record { batches = p i; source = source i }))
          (λ (t : (raised ≡ count) × (version ≤ count)). inr (omega (arith, t.0, now_length, ap length are)))
          is;
    }
