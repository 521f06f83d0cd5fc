-- Lemmas on the texts of prefixes: which text is read as which prefix.
use Rattle.std.proofs.Common.{◌≡◌, ◌≢◌, ℕ, ◌^◌, ◌<◌, ◌≤◌, ◌/◌, ◌%◌, Bool, true, false, cond, ltb, leb, List, ◌∷◌, ◌++◌, Option, Some, None, Ok, Err, refl, sym, ap, subst, ◌∙◌, lit<, arith}
use Rattle.std.proofs.lemmas.Bool.{ltb-false, le-leb, lt-leb}
use Rattle.std.proofs.lemmas.Fmt.{digits_decimal, digits_value-decimal}
use Rattle.std.specs.Fmt.{decimal}
use Rattle.std.specs.Str.Parse.{digits_value}
use Rattle.cspf_addr.specs.Numbers.{is_decimal, number_of}
use Rattle.cspf_addr.specs.AddressText.{address_text, address_of, text_before, text_after}
use Rattle.cspf_addr.specs.PrefixParts.{PrefixParts, with_first_bits}
use Rattle.cspf_addr.specs.ResultSteps.{◌>>=◌}
use Rattle.cspf_addr.specs.Prefixes.{length_of, prefix_of, prefix_text, IsPrefixText, prefix_with, ArePrefixTextsRead, AreOthersRefused, ArePrefixesReadBack}
use Rattle.cspf_addr.specs.declared.prefix.PrefixError.TheVariants as error
use Rattle.cspf_addr.proofs.CutLemmas.{Lacks, Lacks-digits, Lacks-append, before-front, after-front, cut_whole}
use Rattle.cspf_addr.proofs.NumberLemmas.{own, chosen, is_decimal-decimal, is_decimal-some, is_decimal-AllDigits}
use Rattle.cspf_addr.proofs.AddressLemmas.{address_of-address_text, address_of-spelled}

none_large : (value : ℕ) (b : Bool) → ltb value (2 ^ 64) ≡ b → cond b (Some value) None ≡ None
    → 2 ^ 64 ≤ value
none_large value true test found = absurd (cc)
none_large value false test found = ltb-false value (2 ^ 64) test

-- A decimal number of 2^64 or more is refused as a prefix length.
pub length_none : (text : List ℕ) → is_decimal text ≡ true → number_of text ≡ None
    → length_of text ≡ Err error.TooLong
unfolding length_of number_of
length_none text passes found =
    let large = none_large _ _ refl (rw passes at found) in
    rw (passes, lt-leb (digits_value 10 text) 32 (omega arith)) refl

-- A decimal number below 2^64 is read as a prefix length if it is at most 32, and otherwise
-- refused.
length_some : (text : List ℕ) (n : ℕ) → is_decimal text ≡ true → number_of text ≡ Some n
    → length_of text ≡ cond (leb n 32) (Ok n) (Err error.TooLong)
unfolding length_of number_of
length_some text n passes found =
    let value : digits_value 10 text ≡ n = (chosen _ _ _ found).1 in
    rw (passes, value) refl

-- A decimal number above 32 is refused as a prefix length.
pub length_more : (text : List ℕ) (n : ℕ) → is_decimal text ≡ true → number_of text ≡ Some n
    → 32 < n → length_of text ≡ Err error.TooLong
length_more text n passes found long = length_some text n passes found ∙ rw (lt-leb n 32 long) refl

-- A decimal number of at most 32 is read as a prefix length.
pub length_fits : (text : List ℕ) (n : ℕ) → is_decimal text ≡ true → number_of text ≡ Some n
    → n ≤ 32 → length_of text ≡ Ok n
length_fits text n passes found short =
    length_some text n passes found ∙ rw (le-leb n 32 short) refl

-- The text of an address has only digits and points.
lacks_in_address : (mark n : ℕ) → mark < 48 → mark ≢ 46 → n < 2 ^ 32 → Lacks mark (address_text n)
unfolding address_text
lacks_in_address mark n low apart small =
    let part : (octet : ℕ) → octet < 256 → Lacks mark (decimal octet) = λ octet below. Lacks-digits mark (decimal octet) low (digits_decimal own octet (omega arith)) in
    let join : (front back : List ℕ) → Lacks mark front → Lacks mark back → Lacks mark (front ++ 46 ∷ back) = λ front back h k. Lacks-append mark front (46 ∷ back) h (λ same. apart (sym same), k) in
    join _ _ (part (n / 256 ^ 3 % 256) (omega arith))
    (join _ _ (part (n / 256 ^ 2 % 256) (omega arith)) (join _ _ (part (n / 256 ^ 1 % 256) (omega arith)) (part (n % 256) (omega arith))))

lacks_slash : (n : ℕ) → n < 2 ^ 32 → Lacks 47 (address_text n)
lacks_slash n small = lacks_in_address 47 n (lit< tt) (λ same. omega (arith, same)) small

with_length : (b : Bool) (value address : ℕ)
    → cond b (Ok value) (Err error.TooLong) >>= (λ length. Ok (with_first_bits length address)) ≡ cond b (Ok (with_first_bits value address)) (Err error.TooLong)
with_length true value address = refl
with_length false value address = refl

prefix_of-whole : (address : ℕ) (digits : List ℕ) → address < 2 ^ 32 → is_decimal digits ≡ true
    → prefix_of (address_text address ++ 47 ∷ digits) ≡ prefix_with (digits_value 10 digits) address
unfolding prefix_of length_of
prefix_of-whole address digits small passes =
    rw (before-front 47 (address_text address) digits (lacks_slash address small), after-front 47 (address_text address) digits (lacks_slash address small), address_of-address_text address small, passes)
    (with_length (leb (digits_value 10 digits) 32) (digits_value 10 digits) address)

-- A text of an address, a slash and decimal digits is read as a prefix. The prefix length is the
-- value of the digits, and the prefix has the first bits of the address. A value above 32 is
-- refused as `TooLong`.
pub prefix_texts_read : ArePrefixTextsRead
prefix_texts_read text address digits spelled =
    ap prefix_of spelled.whole ∙ prefix_of-whole address digits spelled.small spelled.decimal

refused_from : (text : List ℕ) (found : Option ℕ) (passes : Bool)
    → address_of (text_before 47 text) ≡ found → is_decimal (text_after 47 text) ≡ passes
    → prefix_of text ≢ Err error.NotAPrefix
    → (address : ℕ) × (digits : List ℕ) × IsPrefixText text address digits
unfolding prefix_of length_of
refused_from text None passes front back other = absurd (other (rw front refl))
refused_from text (Some address) false front back other = absurd (other (rw (front, back) refl))
refused_from text (Some address) true front back other =
    let spelled = address_of-spelled (text_before 47 text) address front in
    let cut = cut_whole 47 text (is_decimal-some (text_after 47 text) back) in
    (address, text_after 47 text, record { small = spelled.0; decimal = back; whole = rw spelled.1 at cut })

-- A text that isn't an address, a slash and decimal digits without leading zeros is refused as
-- `NotAPrefix`.
pub others_refused : AreOthersRefused
others_refused text other = refused_from text _ _ refl refl other

-- A text that is read as a prefix has only digits, points and a slash.
pub lacks_in_prefix_text : (mark : ℕ) (text : List ℕ) (prefix : PrefixParts) → mark < 46
    → prefix_of text ≡ Ok prefix → Lacks mark text
lacks_in_prefix_text mark text prefix low read =
    let (address, digits, is) = others_refused text (λ refused. cc) in
    subst (Lacks mark) (sym is.whole)
    (Lacks-append mark (address_text address) (47 ∷ digits) (lacks_in_address mark address (omega arith) (λ same. omega (arith, same)) is.small)
    (λ same. omega (arith, same), Lacks-digits mark digits (omega arith) (is_decimal-AllDigits digits is.decimal)))

-- A prefix is read back from its text.
pub prefix_of-prefix_text : ArePrefixesReadBack
unfolding prefix_text
prefix_of-prefix_text prefix proper =
    prefix_of-whole prefix.address (decimal prefix.length) proper.small
    (is_decimal-decimal prefix.length (omega (arith, proper.most)))
    ∙ rw
    (digits_value-decimal own prefix.length (omega (arith, proper.most)), le-leb prefix.length 32 proper.most)
    (ap (λ address. Ok (record { address = address; length = prefix.length })) proper.zeros)
