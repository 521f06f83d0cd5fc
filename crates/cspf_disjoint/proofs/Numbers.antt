-- Numbers that lists give to routers.
use Rattle.std.proofs.Common.{◌≡◌, ℕ, zero, suc, ◌<◌, List, [], ◌∷◌, true, false, cond, nat_eq, length, slice_index, slice_index_or, AllPairs, refl, sym, ap, ◌∙◌, arith}
use Rattle.std.specs.List.Sorted.{IsStrictlyIncreasing}
use Rattle.std.proofs.lemmas.Bool.{eq-eqb, eqb-true}
use Rattle.std.proofs.lemmas.List.Kept.{AllPairs-from_increasing}
use Rattle.cspf_model.specs.Database.{Database}
use Rattle.cspf_db.specs.Index.{router_list}
use Rattle.cspf_graph.specs.Lists.{IsIndexOf}
use Rattle.cspf_pair.proofs.DistinctSums.{AllPairs-head, AllPairs-tail}
use Rattle.cspf_disjoint.specs.Potentials.{number_for}

less_differs : (n m : ℕ) → n < m → nat_eq n m ≡ false
less_differs n m less =
    elim (nat_eq n m) as (λ b. nat_eq n m ≡ b → b ≡ false) [
      | true ↦ λ e. let same = eqb-true n m e in absurd (omega (arith, less, same))
      | false ↦ λ _. refl
    ] refl

-- The number of the router with the index `p` has the index `p` in its list.
number_for-slice_index : (rs ns : List ℕ) → AllPairs (λ x y. x < y) rs → (p : ℕ) → p < length rs → number_for rs ns (slice_index rs p) ≡ slice_index_or ns p 0
number_for-slice_index [] ns pairs p lt = absurd (omega (arith, lt))
number_for-slice_index (r ∷ rs) [] pairs p lt = refl
number_for-slice_index (r ∷ rs) (n ∷ ns) pairs zero lt = ap (λ b. cond b n (number_for rs ns r)) (eq-eqb r r refl)
number_for-slice_index (r ∷ rs) (n ∷ ns) pairs (suc p) lt =
    let above : r < slice_index rs p = AllPairs-head (λ x y. x < y) r rs pairs p 0 (omega (arith, lt)) in
    ap (λ b. cond b n (number_for rs ns (slice_index rs p))) (less_differs r (slice_index rs p) above)
    ∙ number_for-slice_index rs ns (AllPairs-tail (λ x y. x < y) r rs pairs) p (omega (arith, lt))

pub number_for-index : (d : Database) → IsStrictlyIncreasing (router_list d) → (ns : List ℕ) (router place : ℕ) → IsIndexOf d router place
    → number_for (router_list d) ns router ≡ slice_index_or ns place 0
number_for-index d rising ns router place at =
    ap (number_for (router_list d) ns) (sym at.is)
    ∙ number_for-slice_index (router_list d) ns (AllPairs-from_increasing (router_list d) rising) place at.within
