-- Lemmas for reading a text of digits, one digit at a time.
use Rattle.std.proofs.Common.{◌≡◌, ℕ, ◌+◌, ◌*◌, ◌^◌, ◌<◌, ◌≤◌, Bool, true, false, ◌&&◌, List, [], ◌∷◌, length, get_or, take, suc, zero, refl, sym, ap, ◌∙◌, arith}
use Rattle.std.proofs.lemmas.Bool.{ltb-true, lt-ltb}
use Rattle.std.proofs.lemmas.Str.Parse.{digits_value-take-le}
use Rattle.std.proofs.lemmas.Int.Digits.{digits_more, digits_value_more}
use Rattle.std.proofs.lemmas.List.{take_all}
use Rattle.std.specs.Cmp.Derive.{both_true}
use Rattle.std.specs.Char.{digit_value}
use Rattle.std.specs.Str.Parse.{AllDigits, digits_value}
use Rattle.cspf_addr.specs.Numbers.{are_digits}

-- Both parts of a true conjunction are true.
pub and_parts : (x y : Bool) → (x && y) ≡ true → (x ≡ true) × (y ≡ true)
and_parts true y h = (refl, h)
and_parts false y h = absurd (cc)

-- If the test `are_digits` is true, all bytes are digits of the base.
pub AllDigits-are_digits : (base : ℕ) (ds : List ℕ) → are_digits base ds ≡ true → AllDigits base ds
unfolding are_digits
AllDigits-are_digits base [] h = tt
AllDigits-are_digits base (c ∷ cs) h =
    let parts = and_parts _ _ h in
    (ltb-true _ _ parts.0, AllDigits-are_digits base cs parts.1)

-- If all bytes are digits of the base, the test `are_digits` is true.
pub are_digits-AllDigits : (base : ℕ) (ds : List ℕ) → AllDigits base ds → are_digits base ds ≡ true
unfolding are_digits
are_digits-AllDigits base [] h = refl
are_digits-AllDigits base (c ∷ cs) h = both_true (lt-ltb _ _ h.0) (are_digits-AllDigits base cs h.1)

-- each byte of a text of digits is a digit
pub AllDigits-at : (base : ℕ) (ds : List ℕ) (i : ℕ) → AllDigits base ds → i < length ds
    → digit_value (get_or ds i 0) < base
AllDigits-at base [] i h within = absurd (omega arith)
AllDigits-at base (c ∷ cs) zero h within = h.0
AllDigits-at base (c ∷ cs) (suc i) h within = AllDigits-at base cs i h.1 (omega arith)

-- The value of a text of digits is at least the value of its first `at + 1` digits.
digits_value_more_le : (base : ℕ) (text : List ℕ) (at value : ℕ) → 1 ≤ base → at < length text
    → value ≡ digits_value base (take at text)
    → value * base + digit_value (get_or text at 0) ≤ digits_value base text
digits_value_more_le base text at value least within same =
    rw same
    (rw (← digits_value_more base text at within) (digits_value-take-le base text (at + 1) least))

-- If the first `at + 1` digits of a text have a value of 2^64 or more, the whole text has a value
-- of 2^64 or more.
pub digits_more_none : (base : ℕ) (text : List ℕ) (at value : ℕ) → 1 ≤ base → at < length text
    → value ≡ digits_value base (take at text)
    → (digit_value (get_or text at 0) < base → 2 ^ 64 ≤ value * base + digit_value (get_or text at 0)) → are_digits base text ≡ true → 2 ^ 64 ≤ digits_value base text
digits_more_none base text at value least within same more all =
    let large = more (AllDigits-at base text at (AllDigits-are_digits base text all) within) in
    omega (arith, large, digits_value_more_le base text at value least within same)

-- `value` is the value of the first `at` digits of a text. If the next byte is a digit, the value
-- of the first `at + 1` digits is `value` times the base, plus the value of this digit.
pub digits_more_some : (base : ℕ) (text : List ℕ) (at value more : ℕ) → at < length text
    → AllDigits base (take at text) × (value ≡ digits_value base (take at text))
    → (digit_value (get_or text at 0) < base) × (more ≡ value * base + digit_value (get_or text at 0))
    → AllDigits base (take (at + 1) text) × (more ≡ digits_value base (take (at + 1) text))
digits_more_some base text at value more within before next = (
  digits_more base text at within before.0 next.0,
  next.1 ∙ rw before.1 (sym (digits_value_more base text at within)),
)

-- If at least `length text` digits of a text are read, their value is the value of the whole text.
pub digits_whole : (base : ℕ) (text : List ℕ) (at value : ℕ) → length text ≤ at
    → AllDigits base (take at text) × (value ≡ digits_value base (take at text))
    → (are_digits base text ≡ true) × (value ≡ digits_value base text)
digits_whole base text at value end before =
    let whole : take at text ≡ text = take_all at text end in
    (are_digits-AllDigits base text (rw whole at before.0), before.1 ∙ ap (digits_value base) whole)
