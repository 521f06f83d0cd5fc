-- A batch is added to a journal's list of batches by an atomic exchange. This exchange keeps the
-- invariant of the journal's steps.
use Rattle.std.proofs.Common.{◌≡◌, ℕ, ◌+◌, ◌<◌, ◌==◌, Bool, true, false, List, [], ◌∷◌, ◌++◌, length, refl, ap, sym, ◌∙◌, subst, arith, inl, length-append, None}
use Rattle.std.proofs.lemmas.List.{append-nil}
use Rattle.std.proofs.lemmas.Bool.Decides.{nat_tests}
use mathlib.Core.List.{IsPrefix}
use prog.Atomic.{either}
use Rattle.logbook.specs.Pages.{Cell, cell, keeps, no_nib, step, Moves, Goes}
use Rattle.cspf_model.specs.Numbered.{NumberedChanges}
use Rattle.cspf_model.specs.Laws.{LawfulByOneMore}
use Rattle.cspf_journal.specs.Histories.{BeginsWith, IsHistory, MayFollow}
use Rattle.cspf_journal.specs.HistoryRule.{IsKeptHistory, Adds}
use Rattle.cspf_journal.specs.JournalSteps.{batches_of, count_of, AreJournalSteps}
use Rattle.cspf_journal.specs.declared.log_step.LogStep.{LogStep}
use Rattle.cspf_journal.specs.declared.log_step.LogStep.TheVariants.{Recorded}
use Rattle.cspf_journal.proofs.Prefixes.{BeginsWith-trans, length-prefix, all_of, IsHistory-snoc}
use Rattle.cspf_journal.proofs.JournalSteps.{batches_of-append, batches_of-prefix, count_from-append, AreOrderedFrom-append}

-- the steps of a journal that its invariant shows to all threads: no steps
abbrev pub shown : List LogStep → List LogStep
shown log = []

-- the facts about a single step that the invariant of a journal's steps shows to all threads: no
-- facts
abbrev pub moved : List LogStep → List LogStep → ℕ → Type 0
moved xs ys n = Unit {0}

-- the invariant of a journal's steps holds after a step that changes nothing
pub IsKeptHistory-same : (cells : List Cell) (log : List LogStep) → IsKeptHistory cells log → IsKeptHistory cells (log ++ [])
IsKeptHistory-same cells log = subst (IsKeptHistory cells) (sym (append-nil log))

adds_goes : LawfulByOneMore → (log v : List LogStep) (first : List NumberedChanges) (e : NumberedChanges) (old : ℕ) → length first ≡ old → BeginsWith (batches_of v) first → MayFollow first e → AreJournalSteps log → IsPrefix v log → (b : Bool) → (length (batches_of log) == old) ≡ b
    → Goes IsKeptHistory shown moved 0 (v, (no_nib, None)) (λ n. either (n == old) (old + 1) n) (Adds (step 0 old (old + 1) (Recorded e)) (v, (no_nib, None))) ((length (batches_of log), true) ∷ (count_of log, true) ∷ []) log
adds_goes law log v first e old len known next journal pre true is =
    let here : length (batches_of log) ≡ old = grind (arith, nat_tests) in
    let began : BeginsWith (batches_of log) (batches_of v) = batches_of-prefix v log pre in
    let all : first ≡ batches_of log = all_of first (batches_of log) (BeginsWith-trans (batches_of log) (batches_of v) first began known) (omega arith) in
    let seen : batches_of v ≡ batches_of log = all_of (batches_of v) (batches_of log) began (omega (arith, length-prefix (batches_of log) (batches_of v) began, length-prefix (batches_of v) first known)) in
    let more : batches_of (log ++ Recorded e ∷ []) ≡ batches_of log ++ e ∷ [] = batches_of-append log (Recorded e ∷ []) in
    let history : IsHistory (batches_of (log ++ Recorded e ∷ [])) = subst IsHistory (sym more) (IsHistory-snoc law (batches_of log) e journal.history (subst (λ (z : List NumberedChanges). MayFollow z e) all next)) in
    let journal' : AreJournalSteps (log ++ Recorded e ∷ []) = record { history = history; order = AreOrderedFrom-append 0 0 log (Recorded e ∷ []) journal.order tt } in
    let n : either (length (batches_of log) == old) (old + 1) (length (batches_of log)) ≡ length (batches_of (log ++ Recorded e ∷ [])) = rw is (omega (arith, ap length more, length-append (batches_of log) (e ∷ []))) in
    let count : count_of log ≡ count_of (log ++ Recorded e ∷ []) = sym (count_from-append 0 log (Recorded e ∷ [])) in (
      keeps,
      Recorded e ∷ [],
      None,
      tt,
      record { words = cc (n, count); journal = journal' },
      inl (refl, refl),
      rw is (omega (arith, ap length seen, here), more ∙ ap (λ (w : List NumberedChanges). w ++ e ∷ []) (sym seen), journal'),
    )
adds_goes law log v first e old len known next journal pre false is =
    let n : either (length (batches_of log) == old) (old + 1) (length (batches_of log)) ≡ length (batches_of log) = rw is refl in (
      keeps,
      [],
      None,
      tt,
      IsKeptHistory-same _ log (record { words = ap (λ (k : ℕ). (k, true) ∷ (count_of log, true) ∷ []) n; journal = journal }),
      inl (refl, refl),
      rw is tt,
    )

-- For any earlier steps of the journal, the atomic exchange on the length of the list of batches
-- does one of two things. It adds the batch after all recorded batches, or it finds that the length
-- isn't `old`.
pub adds_moves : LawfulByOneMore → (v : List LogStep) (first : List NumberedChanges) (e : NumberedChanges) (old : ℕ) → length first ≡ old → BeginsWith (batches_of v) first → MayFollow first e
    → Moves IsKeptHistory shown moved 0 (v, (no_nib, None)) (λ n. either (n == old) (old + 1) n) (Adds (step 0 old (old + 1) (Recorded e)) (v, (no_nib, None)))
adds_moves law v first e old len known next cs log kept pre away =
    let P : List Cell → Type 0 = λ c. (0 < length c) × ((cell c 0).1 ≡ true) × Goes IsKeptHistory shown moved 0 (v, (no_nib, None)) (λ n. either (n == old) (old + 1) n) (Adds (step 0 old (old + 1) (Recorded e)) (v, (no_nib, None))) c log in
    subst P (sym kept.words) (omega arith, refl, adds_goes law log v first e old len known next kept.journal pre (length (batches_of log) == old) refl)
