-- The text of a list of hops begins with a digit, or is empty.
use Rattle.std.proofs.Common.{◌≡◌, ◌≢◌, ℕ, ◌/◌, ◌%◌, ◌^◌, ◌<◌, Bool, true, false, cond, ◌&&◌, Some, None, List, [], ◌∷◌, ◌++◌, codes, get_or, refl, sym, ap, ◌∙◌, subst, arith}
use Rattle.std.proofs.lemmas.Bool.{ltb-true}
use Rattle.std.specs.Char.{digit_value}
use Rattle.std.specs.Fmt.{decimal}
use Rattle.cspf_addr.specs.Numbers.{are_digits, is_decimal, number_of, AreSpelledOnce}
use Rattle.cspf_addr.specs.AddressText.{address_text}
use Rattle.cspf_addr.specs.Prefixes.{prefix_text}
use Rattle.cspf_addr.specs.HopText.{hop_text}
use Rattle.cspf_addr.specs.HopLists.{hops_text}
use Rattle.cspf_addr.specs.declared.hop.Hop.{Hop}

-- the first byte of a text is a decimal digit
record BeginsWithDigit (text : List ℕ) : Type 0 where
  first : ℕ
  behind : List ℕ
  whole : text ≡ first ∷ behind
  digit : digit_value first < 10

-- `number_of` gives a number only for a text that passes all its tests. So if it gives a number,
-- the test `first` was true: the first byte of the text is a digit.
first_passed : (plain first others small : Bool) (v n : ℕ) → cond ((plain && (first && others)) && small) (Some v) None ≡ Some n → first ≡ true
first_passed true true others small v n read = refl
first_passed true false others small v n read = absurd (cc)
first_passed false first others small v n read = absurd (cc)

-- a text that is read as a number begins with a digit
number_begins : (text : List ℕ) (n : ℕ) → number_of text ≡ Some n → BeginsWithDigit text
unfolding number_of is_decimal are_digits
number_begins [] n read = absurd (cc)
number_begins (byte ∷ text) n read = record { first = byte; behind = text; whole = refl; digit = ltb-true _ _ (first_passed _ _ _ _ _ n read) }

front_begins : (front back : List ℕ) → BeginsWithDigit front → BeginsWithDigit (front ++ back)
front_begins front back begins = record { first = begins.first; behind = begins.behind ++ back; whole = ap (λ text. text ++ back) begins.whole; digit = begins.digit }

address_begins : AreSpelledOnce → (n : ℕ) → BeginsWithDigit (address_text n)
unfolding address_text
address_begins numbers n =
    let octet = n / 256 ^ 3 % 256 in
    let small : octet < 2 ^ 64 = omega arith in
    front_begins (decimal octet) _ (number_begins (decimal octet) octet ((numbers (decimal octet) octet).1 (small, refl)))

hop_begins : AreSpelledOnce → (hop : Hop) → BeginsWithDigit (hop_text hop)
unfolding hop_text prefix_text
hop_begins numbers hop = front_begins _ _ (front_begins (address_text hop.prefix.address) _ (address_begins numbers hop.prefix.address))

other : (text rest : List ℕ) → BeginsWithDigit text → text ≢ codes "ero:" ++ rest
other text rest begins whole =
    let letter : begins.first ≡ 101 = ap (λ (bytes : List ℕ). get_or bytes 0 0) (sym begins.whole ∙ whole) in
    let digit : digit_value 101 < 10 = subst (λ byte. digit_value byte < 10) letter begins.digit in
    omega (arith, digit)

-- the text of a hop list never begins with `ero:`, which is the prefix of an EXPLICIT_ROUTE object
pub no_object : AreSpelledOnce → (hops : List Hop) (rest : List ℕ) → hops_text hops ≢ codes "ero:" ++ rest
unfolding hops_text
no_object numbers [] rest whole = cc whole
no_object numbers (hop ∷ []) rest whole = other (hop_text hop) rest (hop_begins numbers hop) whole
no_object numbers (hop ∷ next ∷ hops) rest whole = other _ rest (front_begins (hop_text hop) _ (hop_begins numbers hop)) whole
