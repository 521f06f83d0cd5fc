-- Placements that are restored: added to a book with their routes.
use Rattle.std.proofs.Common.{◌≡◌, ℕ, zero, suc, ◌+◌, ◌||◌, Bool, true, false, not, cond, List, [], ◌∷◌, ◌++◌, length, map, nat_eq, refl, sym, ap, subst, ◌∙◌, append-nil, arith}
use Rattle.std.specs.List.{AllByRecursion}
use Rattle.std.proofs.lemmas.Bool.{false≢true}
use Rattle.std.proofs.lemmas.List.{append_assoc, length-append}
use Rattle.std.proofs.lemmas.List.Sums.{sum_by-append, sum_by-cons}
use Rattle.std.proofs.lemmas.Map.Keys.{IsDistinct-head, IsDistinct-tail}
use Rattle.cspf_model.specs.Database.{Database}
use Rattle.cspf_model.specs.Numbered.{NumberedChanges}
use Rattle.cspf_book.specs.declared.error.RestoreError.{RestoreError}
use Rattle.cspf_book.specs.declared.error.RestoreError.TheVariants.{Memory, SameId, Full, TooLong, Twice, TooManyLinks}
use Rattle.cspf_book.specs.declared.error.VersionError.{VersionError}
use Rattle.cspf_book.specs.declared.error.VersionError.TheVariants.{Book, Taker}
use Rattle.cspf_book.specs.Giving.{IsRestoringNotGiven}
use Rattle.cspf_book.specs.declared.placement.Placement.{Placement}
use Rattle.cspf_book.specs.Placements.{id_of, has_id, others, index_of_id}
use Rattle.cspf_book.specs.Alike.{IsWithinLimits}
use Rattle.cspf_book.specs.BookState.{BookState}
use Rattle.cspf_book.specs.PlacedRoutes.{HaveDistinctIds, IsOwnRoute, HaveOwnRoutes, ArePlaced}
use Rattle.cspf_book.specs.Leading.{route_of, moved_batch, IsMoveBatch}
use Rattle.cspf_book.specs.Restoring.{MayBeAdded, AreRestored, IsUnrestored}
use Rattle.cspf_book.proofs.MovedRoutes.{route_of-others, placing_leads}
use Rattle.cspf_book.proofs.StateParts.{state_of}

-- If no placement has an id, the placements with other ids are all placements.
pub others-new : (id : ℕ) (placements : List Placement) → (has_id id placements ≡ true → ⊥) → others id placements ≡ placements
others-new id [] new = refl
others-new id (p ∷ ps) new =
    elim (nat_eq (id_of p) id) as (λ b. ((b || has_id id ps) ≡ true → ⊥) → cond (not b) (p ∷ others id ps) (others id ps) ≡ p ∷ ps) [
      | true ↦ λ off. absurd (off refl)
      | false ↦ λ off. ap (λ qs. p ∷ qs) (others-new id ps off)
    ] new

-- If no placement has an id, the index of the id is the number of placements.
pub index_of-new : (id : ℕ) (placements : List Placement) → (has_id id placements ≡ true → ⊥) → index_of_id id placements ≡ length placements
index_of-new id [] new = refl
index_of-new id (p ∷ ps) new =
    elim (nat_eq (id_of p) id) as (λ b. ((b || has_id id ps) ≡ true → ⊥) → cond (not b) (1 + index_of_id id ps) 0 ≡ suc (length ps)) [
      | true ↦ λ off. absurd (off refl)
      | false ↦ λ off. let rest = index_of-new id ps off in omega (arith, rest)
    ] new

-- The batch of a restored placement leads to the book with this placement.
pub restoring_leads : (base : Database) (version : ℕ) (placements : List Placement) → IsWithinLimits base → HaveOwnRoutes placements → HaveDistinctIds placements
    → (p : Placement) → (has_id (id_of p) placements ≡ true → ⊥) → IsOwnRoute p.route
    → IsMoveBatch (state_of base version placements) (id_of p) (moved_batch base (placements ++ p ∷ []) (version + 1) [] p.route)
    (state_of base (version + 1) (placements ++ p ∷ []))
restoring_leads base version placements within own ids p new its =
    let same = others-new (id_of p) placements new in
    let none : route_of (id_of p) placements ≡ [] = sym (ap (route_of (id_of p)) same) ∙ route_of-others (id_of p) placements in
    subst (λ r. IsMoveBatch (state_of base version placements) (id_of p) (moved_batch base (placements ++ p ∷ []) (version + 1) r p.route) (state_of base (version + 1) (placements ++ p ∷ []))) none
    (subst (λ qs. IsMoveBatch (state_of base version placements) (id_of p) (moved_batch base (qs ++ p ∷ []) (version + 1) (route_of (id_of p) placements) p.route) (state_of base (version + 1) (qs ++ p ∷ []))) same
    (placing_leads base version placements within own ids (id_of p) p refl its))

-- If the batch of a placement that may be added isn't taken, the placement isn't restored.
pub unrestored : {S E : Type 0} (refuses : S → NumberedChanges → E → S → Type 0) (base : Database) (version : ℕ) (placements : List Placement) → IsWithinLimits base → HaveOwnRoutes placements → HaveDistinctIds placements
    → (p : Placement) → MayBeAdded placements p → (before after : S) (why : VersionError RestoreError E)
    → IsRestoringNotGiven refuses before (moved_batch base (placements ++ p ∷ []) (version + 1) [] p.route) why after
    → IsUnrestored refuses (state_of base version placements) p before why after
unrestored refuses base version placements within own ids p may before after (Book Memory) not = (may, not)
unrestored refuses base version placements within own ids p may before after (Book SameId) not = absurd not
unrestored refuses base version placements within own ids p may before after (Book Full) not = absurd not
unrestored refuses base version placements within own ids p may before after (Book TooLong) not = absurd not
unrestored refuses base version placements within own ids p may before after (Book Twice) not = absurd not
unrestored refuses base version placements within own ids p may before after (Book TooManyLinks) not = absurd not
unrestored refuses base version placements within own ids p may before after (Taker why) not = (
  may,
  moved_batch base (placements ++ p ∷ []) (version + 1) [] p.route,
  restoring_leads base version placements within own ids p may.place.new_id (record { once = may.once; short = may.short }),
  not,
)

-- The part of a list that is behind an element, and the element, have what all elements have.
all_behind : {X : Type 0} (P : X → Type 0) (xs : List X) (x : X) (ys : List X) → AllByRecursion P (xs ++ x ∷ ys) → P x
all_behind P [] x ys all = all.0
all_behind P (y ∷ xs) x ys all = all_behind P xs x ys all.1

-- If the ids of placements are distinct, none of those before a placement has its id.
new_id : (done : List Placement) (p : Placement) (ps : List Placement) → HaveDistinctIds (done ++ p ∷ ps) → has_id (id_of p) done ≡ true → ⊥
new_id [] p ps own has = false≢true has
new_id (q ∷ qs) p ps own has =
    which (nat_eq (id_of q) (id_of p)) refl (λ h. new_id qs p ps (IsDistinct-tail nat_eq (id_of q) (map id_of (qs ++ p ∷ ps)) own) h) has
  where
    apart : (rest : List Placement) → AllByRecursion (λ y. nat_eq (id_of q) y ≡ false) (map id_of (rest ++ p ∷ ps)) → nat_eq (id_of q) (id_of p) ≡ false
    apart [] all = all.0
    apart (r ∷ rs) all = apart rs all.1

    which : (b : Bool) → nat_eq (id_of q) (id_of p) ≡ b → (has_id (id_of p) qs ≡ true → ⊥) → (b || has_id (id_of p) qs) ≡ true → ⊥
    which true is later h = false≢true (sym (apart qs (IsDistinct-head nat_eq (id_of q) (map id_of (qs ++ p ∷ ps)) own)) ∙ is)
    which false off later h = later h

-- A placement of a book may be added to those before it.
may_be_added : (done : List Placement) (p : Placement) (ps : List Placement) → ArePlaced (done ++ p ∷ ps) → MayBeAdded done p
may_be_added done p ps are =
    let links = λ (q : Placement). length q.route in
    let its = all_behind (λ q. IsOwnRoute q.route) done p ps are.routes in record {
      place = record {
        new_id = new_id done p ps are.own_ids;
        few = omega (arith, are.few, length-append done (p ∷ ps));
      };
      short = its.short;
      once = its.once;
      few_links = omega (arith, are.few_links, sum_by-append links done (p ∷ ps), sum_by-cons links p ps);
    }

-- The placements of a book are restored one after the other, behind those that are restored already.
restored_from : (base : Database) (version : ℕ) (done rest : List Placement) → ArePlaced (done ++ rest)
    → AreRestored (state_of base version done) rest (state_of base (version + length rest) (done ++ rest))
restored_from base version done [] are = λ i. state_of base (none i) (append-nil done i)
  where
    none : version + zero ≡ version
    none = omega arith
restored_from base version done (p ∷ ps) are = (
  may_be_added done p ps are,
  subst (λ v. AreRestored (state_of base (version + 1) (done ++ p ∷ [])) ps (state_of base v (done ++ p ∷ ps))) next
      (subst (λ qs. AreRestored (state_of base (version + 1) (done ++ p ∷ [])) ps (state_of base (version + 1 + length ps) qs)) whole
      (restored_from base (version + 1) (done ++ p ∷ []) ps (subst ArePlaced (sym whole) are))),
)
  where
    whole : (done ++ p ∷ []) ++ ps ≡ done ++ p ∷ ps
    whole = append_assoc done (p ∷ []) ps

    next : version + 1 + length ps ≡ version + length (p ∷ ps)
    next = omega arith

-- The placements of a book may be restored, in their order, in a book with the same base.
pub all_restored : (s : BookState) (version : ℕ) → ArePlaced s.placements
    → AreRestored (state_of s.base version []) s.placements (state_of s.base (version + length s.placements) s.placements)
all_restored s version are = restored_from s.base version [] s.placements are
