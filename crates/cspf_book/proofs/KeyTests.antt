-- Two ways to test whether keys are equal give the same result.
use Rattle.std.proofs.Common.{◌≡◌, ◌&&◌, Bool, true, false, IsTrue, nat_eq, refl, sym, arith}
use Rattle.std.specs.Ordering.{eq_by_cmp}
use Rattle.cspf_model.specs.Database.{Key, key_cmp}
use Rattle.cspf_model.proofs.Databases.Keys.{keys_same, key_itself}

-- two tests give the same result if each holds whenever the other holds
pub same_tests : (a b : Bool) → (IsTrue a → IsTrue b) → (IsTrue b → IsTrue a) → a ≡ b
same_tests true b there back = sym (there refl)
same_tests false true there back = back refl
same_tests false false there back = refl

-- Two keys are equal in the order of keys exactly if both their parts are equal.
pub same_key_test : (k j : Key) → eq_by_cmp key_cmp k j ≡ (nat_eq j.0 k.0 && nat_eq j.1 k.1)
same_key_test k j = same_tests (eq_by_cmp key_cmp k j) (nat_eq j.0 k.0 && nat_eq j.1 k.1) there back
  where
    there : IsTrue (eq_by_cmp key_cmp k j) → IsTrue (nat_eq j.0 k.0 && nat_eq j.1 k.1)
    there tie = let same = keys_same k j tie in rw same (grind arith)

    back : IsTrue (nat_eq j.0 k.0 && nat_eq j.1 k.1) → IsTrue (eq_by_cmp key_cmp k j)
    back both =
        let from : j.0 ≡ k.0 = grind arith in
        let local : j.1 ≡ k.1 = grind arith in
        let same : k ≡ j = λ i. (sym from i, sym local i) in
        rw same (key_itself j)
