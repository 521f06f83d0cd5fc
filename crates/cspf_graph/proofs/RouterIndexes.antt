-- Lemmas on the indexes of routers in the list of routers.
use Rattle.std.proofs.Common.{◌≡◌, ◌≢◌, ◌⊎◌, inl, inr, ℕ, zero, suc, ◌<◌, List, length, slice_index, sym, ◌∙◌, arith, add-one}
use Rattle.std.specs.List.Sorted.{IsStrictlyIncreasing}
use Rattle.std.proofs.lemmas.Bool.{cases_lt}
use Rattle.cspf_model.specs.Database.{Database}
use Rattle.cspf_db.specs.Index.{router_list}
use Rattle.cspf_graph.specs.Lists.{AreListed, IsIndexOf}

pub same_or_not : (i j : ℕ) → (i ≡ j) ⊎ (i ≢ j)
same_or_not i j =
    elim (cases_lt i j) [
      | inl lt ↦ inr (λ e. omega arith)
      | inr ge ↦ elim (cases_lt j i) [ inl lt ↦ inr (λ e. omega arith) | inr le ↦ inl (omega arith) ]
    ]

rises : (xs : List ℕ) → IsStrictlyIncreasing xs → (i j : ℕ) → i < j → j < length xs → slice_index xs i < slice_index xs j
rises xs up i zero lt h = absurd (omega arith)
rises xs up i (suc j) lt h =
    let next : slice_index xs j < slice_index xs (suc j) = rw add-one at (up j (omega arith)) in
    elim (cases_lt i j) [
      | inl less ↦ omega (arith, rises xs up i j less (omega arith), next)
      | inr ge ↦ let e : i ≡ j = omega arith in rw e next
    ]

pub same_index : (xs : List ℕ) → IsStrictlyIncreasing xs → (i j : ℕ) → i < length xs → j < length xs → slice_index xs i ≡ slice_index xs j → i ≡ j
same_index xs up i j low high e =
    elim (cases_lt i j) [
      | inl lt ↦ absurd (omega (arith, rises xs up i j lt high))
      | inr ge ↦ elim (cases_lt j i) [ inl lt ↦ absurd (omega (arith, rises xs up j i lt low)) | inr le ↦ omega arith ]
    ]

-- If `i` and `j` are indexes of the same router in the list of routers, `i` and `j` are equal.
pub one_place : (d : Database) → AreListed d → (router i j : ℕ) → IsIndexOf d router i → IsIndexOf d router j → i ≡ j
one_place d listed router i j at there = same_index (router_list d) listed.rising i j at.within there.within (at.is ∙ sym there.is)
