-- Lemmas on the texts of numbers: which text is read as which number.
use Rattle.std.proofs.Common.{◌≡◌, ◌≢◌, ℕ, ◌^◌, ◌<◌, ◌≤◌, Bool, true, false, cond, not, ◌&&◌, ◌||◌, ltb, eqb, List, length, get_or, Option, Some, None, IfSome, IfNone, refl, sym, ap, ◌∙◌, inl, inr, arith}
use Rattle.std.proofs.lemmas.Bool.{ltb-true, lt-ltb, le-ltb, cases_lt}
use Rattle.std.proofs.lemmas.Bool.Decides.{nat_tests}
use Rattle.std.proofs.lemmas.Fmt.{digits_decimal, digits_value-decimal, decimal-digits_value, decimal_nonempty, first_decimal, decimal_digit}
use Rattle.std.proofs.lemmas.Str.Parse.{IsNumeralModel, numerals_by_value, tells_digits}
use Rattle.std.specs.Cmp.Derive.{both_true}
use Rattle.std.specs.Fmt.{decimal}
use Rattle.std.specs.Str.Parse.{AllDigits, digits_value}
use Rattle.cspf_addr.specs.Numbers.{are_digits, has_plain_start, is_decimal, number_of, AreSpelledOnce}
use Rattle.cspf_addr.proofs.DigitLemmas.{and_parts, AllDigits-are_digits, are_digits-AllDigits}

-- `AllDigits 10` says which texts are decimal digits, and `digits_value 10` gives their value.
-- Together they are a numeral model of the standard library.
pub own : IsNumeralModel (AllDigits 10) (digits_value 10)
own = numerals_by_value (AllDigits 10) tells_digits

-- If a choice between `Some v` and `None` by the test `b` gives a number, `b` is true, and the
-- number is `v`.
pub chosen : (b : Bool) (v n : ℕ) → cond b (Some v) None ≡ Some n → (b ≡ true) × (v ≡ n)
chosen true v n same = (refl, cc)
chosen false v n same = absurd (cc)

-- If `has_plain_start` holds of a text, the text isn't empty. If its first byte is `0`, it has only
-- one byte.
plain_start : (text : List ℕ) → has_plain_start text ≡ true
    → (0 < length text) × (get_or text 0 0 ≡ 48 → length text ≡ 1)
plain_start text plain = (
  ltb-true _ _ (and_parts _ _ plain).0,
  λ zero_first. one_digit text zero_first (and_parts _ _ plain).1,
)
  where
    one_digit : (text : List ℕ) → get_or text 0 0 ≡ 48
        → (eqb (length text) 1 || not (eqb (get_or text 0 0) 48)) ≡ true → length text ≡ 1
    one_digit text first plain = grind (arith, nat_tests)

start_plain : (text : List ℕ) → 0 < length text → (get_or text 0 0 ≡ 48 → length text ≡ 1)
    → has_plain_start text ≡ true
start_plain text some plain = grind (arith, nat_tests)

decimal_start : (n : ℕ) → n < 2 ^ 64 → get_or (decimal n) 0 0 ≡ 48 → length (decimal n) ≡ 1
decimal_start n small first =
    elim (cases_lt 0 n) [
      | inl above ↦ absurd (omega (arith, first_decimal n above small))
      | inr least ↦ ap length (decimal_digit n (omega arith))
    ]

-- The text of a number has only decimal digits, and no leading zero.
pub is_decimal-decimal : (n : ℕ) → n < 2 ^ 64 → is_decimal (decimal n) ≡ true
unfolding is_decimal
is_decimal-decimal n small =
    both_true (start_plain (decimal n) (decimal_nonempty n small) (decimal_start n small))
    (are_digits-AllDigits 10 (decimal n) (digits_decimal own n small))

-- If a text has only decimal digits, no leading zero, and a value below 2^64, it is the text of
-- this value.
pub decimal-is_decimal : (text : List ℕ) → is_decimal text ≡ true → digits_value 10 text < 2 ^ 64
    → decimal (digits_value 10 text) ≡ text
unfolding is_decimal
decimal-is_decimal text passes small =
    let parts = and_parts _ _ passes in
    let start = plain_start text parts.0 in
    decimal-digits_value own text (AllDigits-are_digits 10 text parts.1) start.0 start.1 small

-- A decimal text has at least one digit.
pub is_decimal-some : (text : List ℕ) → is_decimal text ≡ true → 0 < length text
unfolding is_decimal
is_decimal-some text passes = (plain_start text (and_parts _ _ passes).0).0

-- All bytes of a decimal text are digits.
pub is_decimal-AllDigits : (text : List ℕ) → is_decimal text ≡ true → AllDigits 10 text
unfolding is_decimal
is_decimal-AllDigits text passes = AllDigits-are_digits 10 text (and_parts _ _ passes).1

pub number_of-spelled : (text : List ℕ) (n : ℕ) → number_of text ≡ Some n
    → (n < 2 ^ 64) × (text ≡ decimal n)
unfolding number_of
number_of-spelled text n found =
    let choice = chosen _ _ _ found in
    let parts = and_parts _ _ choice.0 in
    let small = ltb-true _ _ parts.1 in
    rw (← choice.1) (small, sym (decimal-is_decimal text parts.0 small))

-- The text of a number is read as this number.
pub number_of-decimal : (n : ℕ) → n < 2 ^ 64 → number_of (decimal n) ≡ Some n
unfolding number_of
number_of-decimal n small =
    rw (is_decimal-decimal n small, digits_value-decimal own n small, lt-ltb n (2 ^ 64) small) refl

-- A text is read as the number `n` exactly if it is the decimal text of `n`.
pub spelled_once : AreSpelledOnce
spelled_once text n = (number_of-spelled text n, λ h. ap number_of h.1 ∙ number_of-decimal n h.0)

-- If the reader's result `r` is a number, the text is the text of this number.
pub number_some : (text : List ℕ) (r : Option ℕ) → r ≡ number_of text
    → IfSome r (λ n. text ≡ decimal n)
number_some text None same = tt
number_some text (Some n) same = (number_of-spelled text n (sym same)).1

-- If the reader's result `r` is `None`, the text isn't the text of a number below 2^64.
pub number_none : (text : List ℕ) (r : Option ℕ) → r ≡ number_of text
    → IfNone r ((n : ℕ) → n < 2 ^ 64 → text ≢ decimal n)
number_none text None same =
    λ n small spelled. let found = ap number_of spelled ∙ number_of-decimal n small in cc
number_none text (Some n) same = tt

-- If a text is the text of a number, the reader's result `r` is this number.
pub number_only : (text : List ℕ) (r : Option ℕ) → r ≡ number_of text → (n : ℕ) → n < 2 ^ 64
    → text ≡ decimal n → r ≡ Some n
number_only text r same n small spelled = same ∙ (ap number_of spelled ∙ number_of-decimal n small)

refused : (b : Bool) (value : ℕ) → (b ≡ true → 2 ^ 64 ≤ value)
    → None ≡ cond (b && ltb value (2 ^ 64)) (Some value) None
refused true value large = rw (le-ltb value (2 ^ 64) (large refl)) refl
refused false value large = refl

-- If a text isn't empty and has no leading zero, the value that the reader of digits returns is the
-- number that the text spells.
pub number_value : (text : List ℕ) (r : Option ℕ) → has_plain_start text ≡ true
    → IfSome r (λ n. (are_digits 10 text ≡ true) × (n ≡ digits_value 10 text))
    → IfNone r (are_digits 10 text ≡ true → 2 ^ 64 ≤ digits_value 10 text)
    → IfSome r (λ n. n < 2 ^ 64) → r ≡ number_of text
unfolding number_of is_decimal
number_value text None plain some none small = rw plain (refused _ _ none)
number_value text (Some n) plain some none small =
    rw (plain, some.0, ← some.1, lt-ltb n (2 ^ 64) small) refl

-- A text that is empty or has a leading zero isn't a number.
pub number_refused : (text : List ℕ) → has_plain_start text ≡ false → number_of text ≡ None
unfolding number_of is_decimal
number_refused text plain = rw plain refl
