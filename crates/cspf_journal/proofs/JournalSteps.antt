-- Lemmas about a journal's steps, also when one more step is added. A step records a batch, counts
-- a batch as published, or reads the count of published batches.
use Rattle.std.proofs.Common.{◌≡◌, ℕ, ◌+◌, ◌≤◌, List, [], ◌∷◌, ◌++◌, length, length-append, append_assoc, refl, sym, ap, subst, ◌∙◌, arith}
use Rattle.std.proofs.lemmas.List.{append-nil}
use mathlib.Core.List.{IsPrefix}
use Rattle.cspf_model.specs.Numbered.{NumberedChanges}
use Rattle.cspf_journal.specs.Histories.{BeginsWith, IsHistory}
use Rattle.cspf_journal.specs.JournalSteps.{batches_of, count_of, count_from, AreOrderedFrom, AreJournalSteps}
use Rattle.cspf_journal.specs.Readings.{ReadingsFindCounts}
use Rattle.cspf_journal.specs.declared.log_step.LogStep.{LogStep}
use Rattle.cspf_journal.specs.declared.log_step.LogStep.TheVariants.{Recorded, Published, Read}

pub batches_of-append : (xs ys : List LogStep) → batches_of (xs ++ ys) ≡ batches_of xs ++ batches_of ys
batches_of-append [] ys = refl
batches_of-append (Recorded b ∷ xs) ys = ap (λ (w : List NumberedChanges). b ∷ w) (batches_of-append xs ys)
batches_of-append (Published n ∷ xs) ys = batches_of-append xs ys
batches_of-append (Read r p n ∷ xs) ys = batches_of-append xs ys

pub count_from-append : (n : ℕ) (xs ys : List LogStep) → count_from n (xs ++ ys) ≡ count_from (count_from n xs) ys
count_from-append n [] ys = refl
count_from-append n (Recorded b ∷ xs) ys = count_from-append n xs ys
count_from-append n (Published m ∷ xs) ys = count_from-append m xs ys
count_from-append n (Read reader place m ∷ xs) ys = count_from-append n xs ys

-- if `xs` are in order, and `ys` are in order after the batches that `xs` record and publish, then
-- `xs` followed by `ys` are in order
pub AreOrderedFrom-append : (r n : ℕ) (xs ys : List LogStep) → AreOrderedFrom r n xs → AreOrderedFrom (r + length (batches_of xs)) (count_from n xs) ys → AreOrderedFrom r n (xs ++ ys)
AreOrderedFrom-append r n [] ys p q = subst (λ (k : ℕ). AreOrderedFrom k n ys) (omega arith) q
AreOrderedFrom-append r n (Recorded b ∷ xs) ys p q = AreOrderedFrom-append (r + 1) n xs ys p (subst (λ (k : ℕ). AreOrderedFrom k (count_from n xs) ys) (omega arith) q)
AreOrderedFrom-append r n (Published m ∷ xs) ys p q = (p.0, p.1, AreOrderedFrom-append r m xs ys p.2 q)
AreOrderedFrom-append r n (Read reader place m ∷ xs) ys p q = (p.0, AreOrderedFrom-append r n xs ys p.1 q)

-- if the steps `xs` followed by `ys` are in order, `ys` are in order after the batches that `xs`
-- record and publish
pub AreOrderedFrom-after : (r n : ℕ) (xs ys : List LogStep) → AreOrderedFrom r n (xs ++ ys) → AreOrderedFrom (r + length (batches_of xs)) (count_from n xs) ys
AreOrderedFrom-after r n [] ys p = subst (λ (k : ℕ). AreOrderedFrom k n ys) (omega arith) p
AreOrderedFrom-after r n (Recorded b ∷ xs) ys p = subst (λ (k : ℕ). AreOrderedFrom k (count_from n xs) ys) (omega arith) (AreOrderedFrom-after (r + 1) n xs ys p)
AreOrderedFrom-after r n (Published m ∷ xs) ys p = AreOrderedFrom-after r m xs ys p.2
AreOrderedFrom-after r n (Read reader place m ∷ xs) ys p = AreOrderedFrom-after r n xs ys p.1

-- the number of batches that are counted as published is at most the number of recorded batches
pub count_from-le : (r n : ℕ) (xs : List LogStep) → n ≤ r → AreOrderedFrom r n xs → count_from n xs ≤ r + length (batches_of xs)
count_from-le r n [] le p = omega (arith, le)
count_from-le r n (Recorded b ∷ xs) le p = omega (arith, count_from-le (r + 1) n xs (omega (arith, le)) p)
count_from-le r n (Published m ∷ xs) le p = count_from-le r m xs p.1 p.2
count_from-le r n (Read reader place m ∷ xs) le p = count_from-le r n xs le p.1

-- if steps are in order, the count of published batches never decreases
count_from-grows : (r n : ℕ) (xs : List LogStep) → AreOrderedFrom r n xs → n ≤ count_from n xs
count_from-grows r n [] p = omega arith
count_from-grows r n (Recorded b ∷ xs) p = count_from-grows (r + 1) n xs p
count_from-grows r n (Published m ∷ xs) p = omega (arith, p.0, count_from-grows r m xs p.2)
count_from-grows r n (Read reader place m ∷ xs) p = count_from-grows r n xs p.1

-- if the steps `xs` followed by `ys` are in order, `xs` are in order
AreOrderedFrom-first : (r n : ℕ) (xs ys : List LogStep) → AreOrderedFrom r n (xs ++ ys) → AreOrderedFrom r n xs
AreOrderedFrom-first r n [] ys p = tt
AreOrderedFrom-first r n (Recorded b ∷ xs) ys p = AreOrderedFrom-first (r + 1) n xs ys p
AreOrderedFrom-first r n (Published m ∷ xs) ys p = (p.0, p.1, AreOrderedFrom-first r m xs ys p.2)
AreOrderedFrom-first r n (Read reader place m ∷ xs) ys p = (p.0, AreOrderedFrom-first r n xs ys p.1)

count_of-le : (xs ys more : List LogStep) → AreOrderedFrom 0 0 (xs ++ (ys ++ more)) → count_of xs ≤ 0 + length (batches_of xs)
count_of-le xs ys more p = count_from-le 0 0 xs (omega arith) (AreOrderedFrom-first 0 0 xs (ys ++ more) p)

-- A reading of the count of published batches that follows some steps finds at least the count
-- before these steps. It finds at most the number of batches that are recorded before the reading.
found_in : (r n : ℕ) (xs : List LogStep) (reader place found : ℕ) → n ≤ r → AreOrderedFrom r n (xs ++ Read reader place found ∷ []) → (n ≤ found) × (found ≤ r + length (batches_of xs))
found_in r n [] reader place found le p = (omega (arith, p.0), omega (arith, p.0, le))
found_in r n (Recorded b ∷ xs) reader place found le p = let rest = found_in (r + 1) n xs reader place found (omega (arith, le)) p in (rest.0, omega (arith, rest.1))
found_in r n (Published m ∷ xs) reader place found le p = let rest = found_in r m xs reader place found p.1 p.2 in (omega (arith, rest.0, p.0), rest.1)
found_in r n (Read reader' place' m ∷ xs) reader place found le p = found_in r n xs reader place found le p.1

-- A reading among the steps of a journal finds the count of published batches that the steps before
-- it give.
pub found_among : (before after : List LogStep) (reader place found : ℕ) → AreOrderedFrom 0 0 (before ++ Read reader place found ∷ after) → found ≡ count_of before
found_among before after reader place found order = (AreOrderedFrom-after 0 0 before (Read reader place found ∷ after) order).0

pub finds_counts : ReadingsFindCounts
finds_counts before after reader place found up journal =
    let others = up.0 in
    let whole : AreOrderedFrom 0 0 (before ++ (others ++ Read reader place found ∷ [])) = subst (AreOrderedFrom 0 0) (up.1 ∙ append_assoc before others (Read reader place found ∷ [])) journal.order in
    let it = found_in (0 + length (batches_of before)) (count_of before) others reader place found (count_of-le before others (Read reader place found ∷ []) whole) (AreOrderedFrom-after 0 0 before (others ++ Read reader place found ∷ []) whole) in
    (it.0, omega (arith, it.1, ap (λ (l : List LogStep). length (batches_of l)) (up.1 ∙ append_assoc before others (Read reader place found ∷ [])), ap length (batches_of-append before (others ++ Read reader place found ∷ [])), length-append (batches_of before) (batches_of (others ++ Read reader place found ∷ [])), ap length (batches_of-append others (Read reader place found ∷ [])), length-append (batches_of others) []))

-- the count of published batches after the first steps of a journal is at most the count after all
-- steps
pub count_of-prefix : (first all : List LogStep) → IsPrefix first all → AreJournalSteps all → count_of first ≤ count_of all
count_of-prefix first all p journal =
    let whole : AreOrderedFrom 0 0 (first ++ p.0) = subst (AreOrderedFrom 0 0) (sym p.1) journal.order in
    omega (arith, count_from-grows (0 + length (batches_of first)) (count_of first) p.0 (AreOrderedFrom-after 0 0 first p.0 whole), ap count_of p.1, count_from-append 0 first p.0)

-- a prefix of a list of steps records a prefix of the batches that the whole list records
pub batches_of-prefix : (first all : List LogStep) → IsPrefix first all → BeginsWith (batches_of all) (batches_of first)
batches_of-prefix first all p = (batches_of p.0, ap batches_of (sym p.1) ∙ batches_of-append first p.0)

-- if a step that records no batch follows the steps of a journal in order, the longer list is also
-- the steps of a journal
pub AreJournalSteps-same : (steps : List LogStep) (e : LogStep) → batches_of (e ∷ []) ≡ [] → AreJournalSteps steps → AreOrderedFrom (length (batches_of steps)) (count_of steps) (e ∷ []) → AreJournalSteps (steps ++ e ∷ [])
AreJournalSteps-same steps e none j o = record {
  history = subst IsHistory (sym (batches_of-append steps (e ∷ []) ∙ (ap (λ (w : List NumberedChanges). batches_of steps ++ w) none ∙ append-nil (batches_of steps)))) j.history;
  order = AreOrderedFrom-append 0 0 steps (e ∷ []) j.order (subst (λ (k : ℕ). AreOrderedFrom k (count_of steps) (e ∷ [])) (omega arith) o);
}
