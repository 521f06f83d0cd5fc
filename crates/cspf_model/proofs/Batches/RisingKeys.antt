-- Keys in strictly increasing order are all different.
use Rattle.std.proofs.Common.{◌≡◌, suc, ◌+◌, ◌<◌, false, List, [], ◌∷◌, length, get_or, ap, subst, arith}
use Rattle.std.specs.Ordering.{eq_by_cmp, is_eq}
use Rattle.std.specs.declared.cmp.Ordering.TheVariants.{Less}
use Rattle.std.specs.List.{IsDistinct, AllByRecursion, AllAdjacentBelow}
use Rattle.cspf_model.specs.Changes.{ChangeKey, change_key_cmp}
use Rattle.cspf_model.proofs.Databases.Keys.{change_keys_total}

-- The first key is below the second key.
abbrev pub IsBelow : ChangeKey → ChangeKey → Type 0
IsBelow j k = change_key_cmp j k ≡ Less

-- If keys are in increasing order, the keys without the first are in increasing order, too.
behind : (q : ChangeKey) (ks : List ChangeKey) → AllAdjacentBelow IsBelow (q ∷ ks) (length (q ∷ ks)) → AllAdjacentBelow IsBelow ks (length ks)
behind q ks up j d h =
    let next : suc j + 1 ≡ suc (j + 1) = omega arith in
    subst (λ n. change_key_cmp (get_or ks j d) (get_or (q ∷ ks) n d) ≡ Less) next (up (suc j) d (omega arith))

-- If keys are in increasing order and the key `q` is below the first of them, `q` differs from all
-- of them.
apart_behind : (q : ChangeKey) (ks : List ChangeKey) → ((d : ChangeKey) → 0 < length ks → change_key_cmp q (get_or ks 0 d) ≡ Less) → AllAdjacentBelow IsBelow ks (length ks)
    → AllByRecursion (λ y. eq_by_cmp change_key_cmp q y ≡ false) ks
apart_behind q [] first up = tt
apart_behind q (k ∷ ks) first up =
    let here : change_key_cmp q k ≡ Less = first k (omega arith) in
    (ap is_eq here, apart_behind q ks (λ d h. change_keys_total.trans q k (get_or ks 0 d) here (up 0 d (omega arith))) (behind k ks up))

-- Keys in strictly increasing order are all different.
pub distinct_from_rising : (ks : List ChangeKey) → AllAdjacentBelow IsBelow ks (length ks) → IsDistinct (eq_by_cmp change_key_cmp) ks
unfolding IsDistinct
distinct_from_rising [] up = tt
distinct_from_rising (q ∷ ks) up = (apart_behind q ks (λ d h. up 0 d (omega arith)) (behind q ks up), distinct_from_rising ks (behind q ks up))
