-- Only the first 4,097 open changes are kept. These changes fit a database as a batch exactly if
-- all open changes fit this database as a batch.
use Rattle.std.proofs.Common.{◌≡◌, ℕ, zero, suc, ◌<◌, ◌≤◌, List, [], ◌∷◌, ◌++◌, take, length, refl, ap, ◌∙◌, sym, subst, arith}
use Rattle.cspf_model.specs.declared.batch.Change.{Change}
use Rattle.cspf_model.specs.declared.refusal.Refusal.{Refusal}
use Rattle.cspf_model.specs.declared.refusal.Refusal.TheVariants as unfit
use Rattle.cspf_model.specs.Numbered.{NumberedChanges}
use Rattle.cspf_model.specs.Database.{Database}
use Rattle.cspf_model.specs.Changes.{Fits}
use Rattle.cspf_model.specs.Refusals.{IsRefusal}

take-nil : {A : Type 0} (n : ℕ) → take {A = A} n [] ≡ []
take-nil zero = refl
take-nil (suc n) = refl

-- If the list of a list's first n elements is shorter than n, it is the whole list.
take_short : {A : Type 0} (n : ℕ) (xs : List A) → length (take n xs) < n → take n xs ≡ xs
take_short zero xs short = absurd (omega arith)
take_short (suc n) [] short = refl
take_short (suc n) (x ∷ xs) short = ap (λ ys. x ∷ ys) (take_short n xs (omega arith))

-- Let a list have fewer than n elements. If an element is appended to the list, it is also appended
-- to the list of its first n elements.
take-append-short : {A : Type 0} (n : ℕ) (xs : List A) (x : A) → length (take n xs) < n → take n xs ++ x ∷ [] ≡ take n (xs ++ x ∷ [])
take-append-short zero xs x short = absurd (omega arith)
take-append-short (suc n) [] x short = ap (λ ys. x ∷ ys) (sym (take-nil n))
take-append-short (suc n) (y ∷ xs) x short = ap (λ ys. y ∷ ys) (take-append-short n xs x (omega arith))

-- If a list has at least n elements, its first n elements stay the same when more elements are
-- appended to it.
take-append-full : {A : Type 0} (n : ℕ) (xs ys : List A) → n ≤ length (take n xs) → take n xs ≡ take n (xs ++ ys)
take-append-full zero xs ys full = refl
take-append-full (suc n) [] ys full = absurd (omega arith)
take-append-full (suc n) (x ∷ xs) ys full = ap (λ zs. x ∷ zs) (take-append-full n xs ys (omega arith))

pub kept_all : (kept all : List Change) → kept ≡ take 4097 all → length kept ≤ 4096 → kept ≡ all
kept_all kept all front short = front ∙ take_short 4097 all (omega (arith, ap length front))

pub kept_more : (kept all : List Change) (c : Change) → kept ≡ take 4097 all → length kept < 4097 → kept ++ c ∷ [] ≡ take 4097 (all ++ c ∷ [])
kept_more kept all c front short = ap (λ cs. cs ++ c ∷ []) front ∙ take-append-short 4097 all c (omega (arith, ap length front))

pub kept_full : (kept all : List Change) (c : Change) → kept ≡ take 4097 all → 4097 ≤ length kept → kept ≡ take 4097 (all ++ c ∷ [])
kept_full kept all c front full = front ∙ take-append-full 4097 all (c ∷ []) (omega (arith, ap length front))

abbrev batch_of : ℕ → List Change → NumberedChanges
batch_of number changes = record { number = number; changes = changes }

-- If the first 4,097 open changes fit a database as a batch, all open changes fit it as a batch.
pub fits_whole : (d : Database) (number : ℕ) (kept all : List Change) → kept ≡ take 4097 all
    → Fits d (record { number = number; changes = kept }) → Fits d (record { number = number; changes = all })
fits_whole d number kept all front fits = subst (λ cs. Fits d (batch_of number cs)) (kept_all kept all front fits.short) fits

-- The list of a list's first n elements isn't longer than the list itself.
length-take-most : {A : Type 0} (n : ℕ) (xs : List A) → length (take n xs) ≤ length xs
length-take-most zero xs = omega arith
length-take-most (suc n) [] = omega arith
length-take-most (suc n) (x ∷ xs) = omega (arith, length-take-most n xs)

longer : (kept all : List Change) → kept ≡ take 4097 all → 4096 < length kept → 4096 < length all
longer kept all front long = omega (arith, length-take-most 4097 all, ap length front)

-- Let the first 4,097 open changes be refused as a batch. Then all open changes are refused as a
-- batch for the same reason.
pub refusal_whole : (d : Database) (number : ℕ) (kept all : List Change) (why : Refusal) → kept ≡ take 4097 all
    → IsRefusal d (record { number = number; changes = kept }) why → IsRefusal d (record { number = number; changes = all }) why
refusal_whole d number kept all unfit.TooLong front h = longer kept all front h
refusal_whole d number kept all (unfit.Duplicate at) front h =
    subst (λ cs. IsRefusal d (batch_of number cs) (unfit.Duplicate at)) (kept_all kept all front h.0) h
refusal_whole d number kept all (unfit.Absent at) front h =
    subst (λ cs. IsRefusal d (batch_of number cs) (unfit.Absent at)) (kept_all kept all front h.0) h
refusal_whole d number kept all unfit.Full front h =
    subst (λ cs. IsRefusal d (batch_of number cs) unfit.Full) (kept_all kept all front h.0.short) h
refusal_whole d number kept all unfit.TooManyRouters front h =
    subst (λ cs. IsRefusal d (batch_of number cs) unfit.TooManyRouters) (kept_all kept all front h.0.short) h
refusal_whole d number kept all unfit.TooManyMarks front h =
    subst (λ cs. IsRefusal d (batch_of number cs) unfit.TooManyMarks) (kept_all kept all front h.0.short) h
