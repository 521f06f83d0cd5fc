-- Two kinds of steps keep the invariant of a journal's steps: the atomic exchange that counts a
-- batch as published, and the reading of the count of published batches.
use Rattle.std.proofs.Common.{◌≡◌, ℕ, ◌+◌, ◌<◌, ◌≤◌, ◌==◌, Bool, true, false, List, [], ◌∷◌, ◌++◌, length, refl, ap, sym, ◌∙◌, subst, arith, inl, None}
use Rattle.std.proofs.lemmas.List.{append-nil}
use Rattle.std.proofs.lemmas.Bool.Decides.{nat_tests}
use mathlib.Core.List.{IsPrefix}
use prog.Atomic.{either}
use Rattle.logbook.specs.Pages.{Cell, cell, keeps, no_nib, step, Moves, Goes}
use Rattle.cspf_model.specs.Numbered.{NumberedChanges}
use Rattle.cspf_journal.specs.HistoryRule.{IsKeptHistory, CountsOneMore, Reads}
use Rattle.cspf_journal.specs.JournalSteps.{batches_of, count_of, AreJournalSteps, AreStepsUpTo}
use Rattle.cspf_journal.specs.declared.log_step.LogStep.{LogStep}
use Rattle.cspf_journal.specs.declared.log_step.LogStep.TheVariants.{Published, Read}
use Rattle.cspf_journal.proofs.BatchAddition.{shown, moved, IsKeptHistory-same}
use Rattle.cspf_journal.proofs.Prefixes.{length-prefix}
use Rattle.cspf_journal.proofs.JournalSteps.{batches_of-append, batches_of-prefix, count_from-append, count_from-le, AreJournalSteps-same}

-- if `v` is a prefix of the steps `log`, and the step `e` is added at the end of `log`, then `e`
-- follows all steps of `v`
up_to : (v log : List LogStep) (e : LogStep) → IsPrefix v log → AreStepsUpTo v (log ++ e ∷ []) e
up_to v log e pre = (pre.0, ap (λ (w : List LogStep). w ++ e ∷ []) (sym pre.1))

-- a step that records no batch doesn't change the batches that the journal's steps record
recorded-same : (log : List LogStep) (e : LogStep) → batches_of (e ∷ []) ≡ [] → batches_of (log ++ e ∷ []) ≡ batches_of log
recorded-same log e none = batches_of-append log (e ∷ []) ∙ (ap (λ (w : List NumberedChanges). batches_of log ++ w) none ∙ append-nil (batches_of log))

counts_goes : (log v : List LogStep) (old new : ℕ) → new ≡ old + 1 → new ≤ length (batches_of v) → AreJournalSteps log → IsPrefix v log → (b : Bool) → (count_of log == old) ≡ b
    → Goes IsKeptHistory shown moved 1 (v, (no_nib, None)) (λ n. either (n == old) new n) (CountsOneMore (step 1 old new (Published new)) (v, (no_nib, None))) ((length (batches_of log), true) ∷ (count_of log, true) ∷ []) log
counts_goes log v old new one within journal pre true is =
    let e : LogStep = Published new in
    let here : count_of log ≡ old = grind (arith, nat_tests) in
    let room : new ≤ length (batches_of log) = omega (arith, within, length-prefix (batches_of log) (batches_of v) (batches_of-prefix v log pre)) in
    let same : batches_of log ≡ batches_of (log ++ e ∷ []) = sym (recorded-same log e refl) in
    let journal' : AreJournalSteps (log ++ e ∷ []) = AreJournalSteps-same log e refl journal (omega (arith, here, one), room, tt) in
    let count : count_of (log ++ e ∷ []) ≡ new = count_from-append 0 log (e ∷ []) in
    let n : either (count_of log == old) new (count_of log) ≡ count_of (log ++ e ∷ []) = rw is (sym count) in
    let length_is : length (batches_of log) ≡ length (batches_of (log ++ e ∷ [])) = ap length same in (
      keeps,
      e ∷ [],
      None,
      tt,
      record { words = cc (n, length_is); journal = journal' },
      inl (refl, refl),
      rw is (up_to v log e pre, count, journal'),
    )
counts_goes log v old new one within journal pre false is =
    let n : either (count_of log == old) new (count_of log) ≡ count_of log = rw is refl in (
      keeps,
      [],
      None,
      tt,
      IsKeptHistory-same _ log (record { words = ap (λ (k : ℕ). (length (batches_of log), true) ∷ (k, true) ∷ []) n; journal = journal }),
      inl (refl, refl),
      rw is tt,
    )

-- for any earlier steps of the journal, the atomic exchange counts one more recorded batch as
-- published, or it finds that the count of published batches isn't `old`
pub counts_moves : (v : List LogStep) (old new : ℕ) → new ≡ old + 1 → new ≤ length (batches_of v)
    → Moves IsKeptHistory shown moved 1 (v, (no_nib, None)) (λ n. either (n == old) new n) (CountsOneMore (step 1 old new (Published new)) (v, (no_nib, None)))
counts_moves v old new one within cs log kept pre away =
    let P : List Cell → Type 0 = λ c. (1 < length c) × ((cell c 1).1 ≡ true) × Goes IsKeptHistory shown moved 1 (v, (no_nib, None)) (λ n. either (n == old) new n) (CountsOneMore (step 1 old new (Published new)) (v, (no_nib, None))) c log in
    subst P (sym kept.words) (omega arith, refl, counts_goes log v old new one within kept.journal pre (count_of log == old) refl)

reads_goes : (log v : List LogStep) (reader place asked : ℕ) → AreJournalSteps log → IsPrefix v log
    → Goes IsKeptHistory shown moved 1 (v, (no_nib, None)) (λ n. n) (Reads (step 1 0 0 (Read reader place asked)) (v, (no_nib, None))) ((length (batches_of log), true) ∷ (count_of log, true) ∷ []) log
reads_goes log v reader place asked journal pre =
    let e : LogStep = Read reader place (count_of log) in
    let same : batches_of (log ++ e ∷ []) ≡ batches_of log = recorded-same log e refl in
    let length_is : length (batches_of log) ≡ length (batches_of (log ++ e ∷ [])) = ap length (sym same) in
    let journal' : AreJournalSteps (log ++ e ∷ []) = AreJournalSteps-same log e refl journal (refl, tt) in
    let count : count_of log ≡ count_of (log ++ e ∷ []) = sym (count_from-append 0 log (e ∷ [])) in
    let within : count_of log ≤ length (batches_of log) = omega (arith, count_from-le 0 0 log (omega arith) journal.order) in (
      keeps,
      e ∷ [],
      None,
      tt,
      record { words = cc (count, length_is); journal = journal' },
      inl (refl, refl),
      (up_to v log e pre, omega (arith, within, length_is), journal'),
    )

-- for any earlier steps of the journal, the reading finds the count of published batches that these
-- steps give
pub reads_moves : (v : List LogStep) (reader place asked : ℕ)
    → Moves IsKeptHistory shown moved 1 (v, (no_nib, None)) (λ n. n) (Reads (step 1 0 0 (Read reader place asked)) (v, (no_nib, None)))
reads_moves v reader place asked cs log kept pre away =
    let P : List Cell → Type 0 = λ c. (1 < length c) × ((cell c 1).1 ≡ true) × Goes IsKeptHistory shown moved 1 (v, (no_nib, None)) (λ n. n) (Reads (step 1 0 0 (Read reader place asked)) (v, (no_nib, None))) c log in
    subst P (sym kept.words) (omega arith, refl, reads_goes log v reader place asked kept.journal pre)
