-- How the result of a reader of texts is related to the value that a text spells.
use Rattle.std.proofs.Common.{◌≡◌, Option, Some, None, Result, Ok, Err, IfOk, OnErr, refl, sym, ap, ◌∙◌}
use Rattle.std.specs.Option.{ok_or}
use Rattle.std.specs.Result.{result_ok}

-- `result_ok` of `ok_or` is the option that `ok_or` was given.
result_ok-ok_or : {A E : Type 0} (o : Option A) (e : E) → result_ok (ok_or o e) ≡ o
result_ok-ok_or None e = refl
result_ok-ok_or (Some a) e = refl

-- If a reader's result `r` is `ok_or` of an option, `result_ok` of `r` is this option again.
pub ok_or_read : {A E : Type 0} {r : Result A E} {o found : Option A} (e : E) → r ≡ ok_or o e
    → o ≡ found → result_ok r ≡ found
ok_or_read e same is = ap result_ok same ∙ (result_ok-ok_or _ _ ∙ is)

-- Suppose that a reader reads from a text only values that the text spells. If the reader's result
-- `r` has a value, the text spells this value.
pub ok_spelled : {A E : Type 0} (r : Result A E) (o : Option A) (Spells : A → Type 0)
    → result_ok r ≡ o → ((a : A) → o ≡ Some a → Spells a) → IfOk r Spells
ok_spelled (Ok a) o Spells same spelled = spelled a (sym same)
ok_spelled (Err e) o Spells same spelled = tt

-- Suppose that a reader reads each value that a text spells. If the reader's result `r` is an
-- error, the text spells no value.
pub err_unspelled : {A E : Type 0} (r : Result A E) (o : Option A) (Spells : A → Type 0)
    → result_ok r ≡ o → ((a : A) → Spells a → o ≡ Some a) → OnErr r ((a : A) → Spells a → ⊥)
err_unspelled (Ok a) o Spells same read = tt
err_unspelled (Err e) o Spells same read = λ a spells. let found = read a spells in cc

-- If the option `o` has a value, and `result_ok` of a result is `o`, the result is `Ok` with this
-- value.
pub only_spelled : {A E : Type 0} (r : Result A E) (o : Option A) → result_ok r ≡ o → (a : A)
    → o ≡ Some a → r ≡ Ok a
only_spelled (Ok b) o same a read = let found : Some b ≡ Some a = same ∙ read in cc
only_spelled (Err e) o same a read = absurd (cc)
