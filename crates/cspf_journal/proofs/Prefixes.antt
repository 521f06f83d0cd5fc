-- Prefixes of one list of batches.
use Rattle.std.proofs.Common.{◌≡◌, ℕ, ◌+◌, ◌≤◌, List, [], ◌∷◌, ◌++◌, length, take, drop, refl, sym, ap, subst, ◌∙◌, arith, append_assoc, length-append, take-append-drop}
use Rattle.std.proofs.lemmas.List.{append-nil}
use Rattle.cspf_model.specs.Numbered.{NumberedChanges, AreNumberedFrom}
use Rattle.cspf_model.specs.Changes.{AreLawful}
use Rattle.cspf_model.specs.Laws.{LawfulByOneMore, FirstBatchesAreLawful}
use Rattle.cspf_journal.specs.Histories.{BeginsWith, IsHistory, MayFollow}

pub BeginsWith-self : (bs : List NumberedChanges) → BeginsWith bs bs
BeginsWith-self bs = ([], sym (append-nil bs))

pub BeginsWith-snoc : (all first : List NumberedChanges) (b : NumberedChanges) → BeginsWith all first → BeginsWith (all ++ b ∷ []) first
BeginsWith-snoc all first b p = (p.0 ++ b ∷ [], ap (λ (w : List NumberedChanges). w ++ b ∷ []) p.1 ∙ append_assoc first p.0 (b ∷ []))

pub BeginsWith-trans : (all some first : List NumberedChanges) → BeginsWith all some → BeginsWith some first → BeginsWith all first
BeginsWith-trans all some first p q = (q.0 ++ p.0, p.1 ∙ (ap (λ (w : List NumberedChanges). w ++ p.0) q.1 ∙ append_assoc first q.0 p.0))

-- the first `n` batches of a list are a prefix of the list
pub BeginsWith-take : (n : ℕ) (all : List NumberedChanges) → BeginsWith all (take n all)
BeginsWith-take n all = (drop n all, sym (take-append-drop n all))

pub length-prefix : (all first : List NumberedChanges) → BeginsWith all first → length first ≤ length all
length-prefix all first p = omega (arith, ap length p.1, length-append first p.0)

-- if two lists are prefixes of one list, the shorter one is a prefix of the longer one
pub shorter : (xs ys all : List NumberedChanges) → BeginsWith all xs → BeginsWith all ys → length xs ≤ length ys → BeginsWith ys xs
shorter [] ys all p q le = (ys, refl)
shorter (x ∷ xs) [] all p q le = absurd (omega arith)
shorter (x ∷ xs) (y ∷ ys) [] p q le = absurd (cc (p.1))
shorter (x ∷ xs) (y ∷ ys) (z ∷ zs) p q le =
    let heads : x ≡ y = cc (p.1, q.1) in
    let rest = shorter xs ys zs (p.0, cc (p.1)) (q.0, cc (q.1)) (omega arith) in
    (rest.0, cc (heads, rest.1))

-- a prefix of a list that is as long as the list is the whole list
pub all_of : (xs all : List NumberedChanges) → BeginsWith all xs → length xs ≡ length all → xs ≡ all
all_of [] [] p len = refl
all_of [] (y ∷ ys) p len = absurd (omega arith)
all_of (x ∷ xs) [] p len = absurd (omega arith)
all_of (x ∷ xs) (y ∷ ys) p len =
    let rest = all_of xs ys (p.0, cc (p.1)) (omega arith) in cc (p.1, rest)

AreNumberedFrom-snoc : (n : ℕ) (bs : List NumberedChanges) (b : NumberedChanges)
    → AreNumberedFrom n bs → b.number ≡ length bs + n → AreNumberedFrom n (bs ++ b ∷ [])
AreNumberedFrom-snoc n [] b all is = (omega (arith, is), tt)
AreNumberedFrom-snoc n (c ∷ bs) b all is = (all.0, AreNumberedFrom-snoc (n + 1) bs b all.1 (omega (arith, is)))

-- If `IsHistory` holds of a list of batches, it still holds when the next batch that may be
-- published is added at the end. Such batches are numbered from 1, and each fits the batches before
-- it.
pub IsHistory-snoc : LawfulByOneMore → (bs : List NumberedChanges) (b : NumberedChanges) → IsHistory bs → MayFollow bs b → IsHistory (bs ++ b ∷ [])
IsHistory-snoc law bs b h f = record {
  lawful = (law bs b).1 (h.lawful, f.fits);
  numbers = AreNumberedFrom-snoc 1 bs b h.numbers f.number;
  most = omega (arith, f.room, length-append bs (b ∷ []));
}

AreNumberedFrom-prefix : (n : ℕ) (bs more : List NumberedChanges) → AreNumberedFrom n (bs ++ more) → AreNumberedFrom n bs
AreNumberedFrom-prefix n [] more all = tt
AreNumberedFrom-prefix n (b ∷ bs) more all = (all.0, AreNumberedFrom-prefix (n + 1) bs more all.1)

-- If `IsHistory` holds of a list of batches, it holds of each prefix of the list. Such batches are
-- numbered from 1, and each fits the batches before it.
pub IsHistory-prefix : FirstBatchesAreLawful → (all first : List NumberedChanges) → BeginsWith all first → IsHistory all → IsHistory first
IsHistory-prefix law all first p h = record {
  lawful = law first p.0 (subst AreLawful p.1 h.lawful);
  numbers = AreNumberedFrom-prefix 1 first p.0 (subst (AreNumberedFrom 1) p.1 h.numbers);
  most = omega (arith, h.most, length-prefix all first p);
}
