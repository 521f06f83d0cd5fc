-- How numbers are written in every text format: in decimal, unsigned, and without leading zeros.
use Rattle.std.specs.Prelude.{◌≡◌, ℕ, ◌^◌, ◌<◌, ◌↔◌, Bool, not, ◌&&◌, ◌||◌, ◌==◌, nat_lt, if◌then◌else◌, List, length, slice_index, Option, Some, None}
use Rattle.std.specs.Char.{digit_value}
use Rattle.std.specs.Fmt.{decimal}
use Rattle.std.specs.List.{list_all}
use Rattle.std.specs.Str.Parse.{digits_value}

-- Each byte is a digit of this base. Letters, upper or lower case, are the digits above 9.
unfoldable pub are_digits : ℕ → List ℕ → Bool
are_digits base text = list_all (λ byte. nat_lt (digit_value byte) base) text

-- The text isn't empty and has no leading zero. The text `0` has no leading zero.
abbrev pub has_plain_start : List ℕ → Bool
has_plain_start text =
    nat_lt 0 (length text) && (length text == 1 || not (slice_index text 0 == 48))

-- The text is one or more decimal digits without a leading zero.
unfoldable pub is_decimal : List ℕ → Bool
is_decimal text = has_plain_start text && are_digits 10 text

-- the number that a text spells in decimal, or `None` if it spells no number below 2^64
unfoldable pub number_of : List ℕ → Option ℕ
number_of text =
    if is_decimal text && nat_lt (digits_value 10 text) (2 ^ 64)
    then Some (digits_value 10 text)
    else None

-- A text is read as the number `n` exactly if it is the decimal text of `n`.
abbrev pub AreSpelledOnce : Type 0
AreSpelledOnce =
    (text : List ℕ) (n : ℕ) → (number_of text ≡ Some n) ↔ ((n < 2 ^ 64) × (text ≡ decimal n))
