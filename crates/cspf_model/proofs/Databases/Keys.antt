-- The keys of links and of changes: how keys are ordered, and which keys compare as equal.
use Rattle.std.proofs.Common.{◌≡◌, ◌≢◌, ℕ, true, false, refl, rules}
use Rattle.std.specs.Ordering.{nat_cmp, eq_by_cmp, is_eq, ordering_then}
use Rattle.std.specs.declared.cmp.Ordering.{Ordering}
use Rattle.std.specs.declared.cmp.Ordering.TheVariants.{Less, Greater}
use Rattle.std.specs.Cmp.{Equal-is}
use Rattle.std.specs.FinMap.{IsAntisymmetric}
use Rattle.std.specs.Cmp.{IsTotalOrder, nat_cmp_total}
use Rattle.std.specs.Cmp.Lexicographic.{options_total}
use Rattle.std.proofs.lemmas.Cmp.{then_total, on_total, eq_by_cmp_equiv}
use Rattle.cspf_model.specs.Database.{Key, key_cmp}
use Rattle.cspf_model.specs.Changes.{ChangeKey, change_key_cmp, link_key, mark_key}

-- The order of keys is total.
pub keys_total : IsTotalOrder key_cmp
keys_total = search rules

-- A key compares as equal to itself.
pub key_itself : (k : Key) → eq_by_cmp key_cmp k k ≡ true
key_itself k = (eq_by_cmp_equiv keys_total).refl k

-- If the key `j` doesn't compare as equal to `k`, then `k` doesn't compare as equal to `j`.
pub keys_apart : (j k : Key) → eq_by_cmp key_cmp j k ≡ false → eq_by_cmp key_cmp k j ≡ false
keys_apart j k e = rw ((eq_by_cmp_equiv keys_total).symm k j) e

-- The order of keys is antisymmetric: keys whose comparison gives `Equal` are equal.
pub keys_antisymmetric : IsAntisymmetric key_cmp
keys_antisymmetric = search rules

-- Keys that compare as equal are equal.
pub keys_same : (j k : Key) → eq_by_cmp key_cmp j k ≡ true → j ≡ k
keys_same j k e = keys_antisymmetric j k ((Equal-is (key_cmp j k)).0 e)

-- Different keys don't compare as equal.
pub keys_apart_from : (j k : Key) → j ≢ k → eq_by_cmp key_cmp j k ≡ false
keys_apart_from j k apart =
    elim (eq_by_cmp key_cmp j k) as (λ b. eq_by_cmp key_cmp j k ≡ b → b ≡ false) [ true ↦ λ tie. absurd (apart (keys_same j k tie)) | false ↦ λ _. refl ] refl

-- The order of the keys of changes is total.
pub change_keys_total : IsTotalOrder change_key_cmp
change_keys_total =
    then_total (on_total (λ (k : ChangeKey). k.0) nat_cmp_total)
    (on_total (λ (k : ChangeKey). k.1) (options_total nat_cmp_total))

-- The key of a change compares as equal to itself.
pub change_key_itself : (k : ChangeKey) → eq_by_cmp change_key_cmp k k ≡ true
change_key_itself k = (eq_by_cmp_equiv change_keys_total).refl k

-- If the key `j` of a change doesn't compare as equal to `k`, then `k` doesn't compare as equal to
-- `j`.
pub change_keys_apart : (j k : ChangeKey) → eq_by_cmp change_key_cmp j k ≡ false
    → eq_by_cmp change_key_cmp k j ≡ false
change_keys_apart j k e = rw ((eq_by_cmp_equiv change_keys_total).symm k j) e

-- The order of the keys of changes is antisymmetric: keys whose comparison gives `Equal` are equal.
change_keys_antisymmetric : IsAntisymmetric change_key_cmp
change_keys_antisymmetric = search rules

-- Keys of changes that compare as equal are equal.
pub change_keys_same : (j k : ChangeKey) → eq_by_cmp change_key_cmp j k ≡ true → j ≡ k
change_keys_same j k e =
    change_keys_antisymmetric j k ((Equal-is (change_key_cmp j k)).0 e)

-- If the second of two comparisons doesn't give `Equal`, `ordering_then` of both doesn't give
-- `Equal`.
untied_behind : (o p : Ordering) → is_eq p ≡ false → is_eq (ordering_then o p) ≡ false
untied_behind o p e = search rules

-- The key of a change to a link doesn't compare as equal to the key of a change of a router's
-- transit.
pub link_apart : (k : Key) (router : ℕ)
    → eq_by_cmp change_key_cmp (link_key k) (mark_key router) ≡ false
link_apart k router = untied_behind (nat_cmp k.0 router) Greater refl

pub mark_apart : (router : ℕ) (k : Key)
    → eq_by_cmp change_key_cmp (mark_key router) (link_key k) ≡ false
mark_apart router k = untied_behind (nat_cmp router k.0) Less refl

-- If the changes to two links have the same key, the two links have the same key.
pub link_keys_same : (j k : Key) → link_key j ≡ link_key k → j ≡ k
link_keys_same j k e = search rules

-- The key of a change to a link isn't equal to the key of a change of a router's transit.
pub link_not_mark : (k : Key) (router : ℕ) → link_key k ≡ mark_key router → ⊥
link_not_mark k router e = search rules
