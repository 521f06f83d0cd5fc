-- A database has at most one snapshot.
use Rattle.std.proofs.Common.{◌≡◌, ℕ, ◌+◌, ◌<◌, List, [], ◌∷◌, ◌++◌, length, take, drop, refl, sym, ap, ◌∙◌, arith, length-append}
use Rattle.std.specs.Cmp.{nat_cmp_total}
use Rattle.std.specs.FinSet as set
use Rattle.std.proofs.Math.Seq.{take-append_seam, drop-append_seam}
use Rattle.std.proofs.lemmas.List.{append-nil}
use Rattle.std.proofs.lemmas.Map.Keys.{sorted_from_strictly_increasing}
use Rattle.cspf_model.specs.declared.batch.Change.{Change}
use Rattle.cspf_model.specs.Numbered.{NumberedChanges, AreNumberedFrom}
use Rattle.cspf_model.specs.Database.{Database}
use Rattle.cspf_db.specs.Index.{links_of}
use Rattle.cspf_model.specs.Changes.{changes_of}
use Rattle.cspf_snapshot.specs.Snapshots.{changes_making, AreMarksOf, AreFullButLast}
use Rattle.cspf_snapshot.specs.SnapshotLaws.{OneSnapshot}
use Rattle.cspf_snapshot.proofs.FullBatches.{length-changes_of-lt}
use Rattle.cspf_snapshot.proofs.RisingLists.{same_rising}

-- if two lists have exactly the marked routers of a database, each once and in increasing order,
-- the two lists are equal
same_marks : (d : Database) (ms ns : List ℕ) → AreMarksOf d ms → AreMarksOf d ns → ms ≡ ns
same_marks d ms ns are also =
    same_rising ms ns (sorted_from_strictly_increasing ms are.rising) (sorted_from_strictly_increasing ns also.rising)
    (λ q. sym (set.contains-from_list nat_cmp_total ms q)
    ∙ ap (λ s. set.contains s q) (sym are.all ∙ also.all)
    ∙ set.contains-from_list nat_cmp_total ns q)

-- if two concatenations are equal and their first lists have the same length, the first lists are
-- equal
same_fronts : (front back other rest : List Change) → length front ≡ length other
    → front ++ back ≡ other ++ rest → front ≡ other
same_fronts front back other rest long e =
    sym (take-append_seam front back) ∙ ap (take (length front)) e
    ∙ ap (λ n. take n (other ++ rest)) long ∙ take-append_seam other rest

-- if two concatenations are equal and their first lists have the same length, the second lists are
-- equal
same_backs : (front back other rest : List Change) → length front ≡ length other
    → front ++ back ≡ other ++ rest → back ≡ rest
same_backs front back other rest long e =
    sym (drop-append_seam front back) ∙ ap (drop (length front)) e
    ∙ ap (λ n. drop n (other ++ rest)) long ∙ drop-append_seam other rest

-- two batches with the same number and the same changes are equal
one_batch : (b c : NumberedChanges) → b.number ≡ c.number → b.changes ≡ c.changes → b ≡ c
one_batch b c number changes = λ i. record { number = number i; changes = changes i }

-- if there is at least one batch, and all batches except the last one are full, there is at least
-- one change
some_changes : (b : NumberedChanges) (bs : List NumberedChanges) → AreFullButLast (b ∷ bs)
    → 0 < length (changes_of (b ∷ bs))
some_changes b bs full = omega (arith, length-changes_of-lt (b ∷ bs) full)

-- Two lists of batches have the same changes in the same order. In both lists, the batches are
-- numbered consecutively from `first`, and each batch except the last one is full. Then the lists
-- are equal.
same_batches : (first : ℕ) (bs cs : List NumberedChanges) → AreFullButLast bs → AreFullButLast cs
    → AreNumberedFrom first bs → AreNumberedFrom first cs → changes_of bs ≡ changes_of cs → bs ≡ cs
same_batches first [] [] full also numbers others e = refl
same_batches first [] (c ∷ cs) full also numbers others e =
    let no : ⊥ = omega (arith, ap length e, some_changes c cs also) in absurd no
same_batches first (b ∷ bs) [] full also numbers others e =
    let no : ⊥ = omega (arith, ap length e, some_changes b bs full) in absurd no
same_batches first (b ∷ []) (c ∷ []) full also numbers others e =
    ap (λ a. a ∷ []) (one_batch b c (numbers.0 ∙ sym others.0) (sym (append-nil b.changes) ∙ e ∙ append-nil c.changes))
same_batches first (b ∷ []) (c ∷ g ∷ cs) full also numbers others e =
    let no : ⊥ = omega (arith, ap length e, full.1, also.0, length-append b.changes [], length-append c.changes (changes_of (g ∷ cs)), some_changes g cs also.1) in
    absurd no
same_batches first (b ∷ f ∷ bs) (c ∷ []) full also numbers others e =
    let no : ⊥ = omega (arith, ap length e, also.1, full.0, length-append c.changes [], length-append b.changes (changes_of (f ∷ bs)), some_changes f bs full.1) in
    absurd no
same_batches first (b ∷ f ∷ bs) (c ∷ g ∷ cs) full also numbers others e =
    let long : length b.changes ≡ length c.changes = full.0 ∙ sym also.0 in
    let here = one_batch b c (numbers.0 ∙ sym others.0) (same_fronts b.changes (changes_of (f ∷ bs)) c.changes (changes_of (g ∷ cs)) long e) in
    let behind = same_batches (first + 1) (f ∷ bs) (g ∷ cs) full.1 also.1 numbers.1 others.1 (same_backs b.changes (changes_of (f ∷ bs)) c.changes (changes_of (g ∷ cs)) long e) in
    λ i. here i ∷ behind i

-- a database has at most one snapshot
pub one_snapshot : OneSnapshot
one_snapshot d batches others is also =
    same_batches 1 batches others is.full also.full is.numbers also.numbers
    (is.changes
    ∙ ap (changes_making (links_of d)) (same_marks d is.marks also.marks is.are_marks also.are_marks)
    ∙ sym also.changes)
