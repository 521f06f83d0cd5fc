-- Lemmas on the texts of IPv4 addresses: which text is read as which address.
use Rattle.std.proofs.Common.{◌≡◌, ◌≢◌, ℕ, ◌^◌, ◌<◌, ◌/◌, ◌%◌, zero, suc, List, [], ◌∷◌, ◌++◌, length, get_or, map, Option, Some, None, Result, Ok, Err, IfOk, OnErr, refl, sym, ap, ◌∙◌, lit<, arith}
use Rattle.std.proofs.lemmas.Bool.{ltb-true, lt-ltb}
use Rattle.std.proofs.lemmas.Fmt.{digits_decimal, decimal_nonempty}
use Rattle.std.proofs.lemmas.Nat.{be_bytes_4, from_be_bytes-to_be_bytes_4}
use Rattle.std.specs.Fmt.{decimal}
use Rattle.std.specs.Int.{w32, to_be_bytes, from_be_bytes}
use Rattle.std.specs.List.{join_with_byte}
use Rattle.std.specs.Option.{option_and_then, option_map}
use Rattle.std.specs.Result.{result_ok}
use Rattle.cspf_addr.specs.AddressText.{address_text, text_before, text_after, octet_of, octets_of, address_of, AreAddressesSpelledOnce, IsAddressTextInjective}
use Rattle.cspf_addr.proofs.CutLemmas.{Lacks, Lacks-digits, before-front, after-front, cut_whole}
use Rattle.cspf_addr.proofs.Readers.{ok_spelled, only_spelled}
use Rattle.cspf_addr.proofs.NumberLemmas.{own, chosen, number_of-spelled, number_of-decimal}

-- If `option_and_then f o` has a value, `o` has a value, and `f` turns the value of `o` into the
-- value of `option_and_then f o`.
pub first_step : {A B : Type 0} (o : Option A) (f : A → Option B) (y : B)
    → option_and_then f o ≡ Some y → (x : A) × (o ≡ Some x) × (f x ≡ Some y)
first_step None f y found = absurd (cc)
first_step (Some x) f y found = (x, refl, found)

-- If a text is read as an octet, it is the text of this octet.
octet_of-spelled : (text : List ℕ) (n : ℕ) → octet_of text ≡ Some n → (n < 256) × (text ≡ decimal n)
unfolding octet_of
octet_of-spelled text n found =
    let step = first_step _ _ _ found in
    let choice = chosen _ _ _ step.2 in
    rw (← choice.1) (ltb-true _ _ choice.0, (number_of-spelled text step.0 step.1).1)

-- The text of an octet is read as this octet.
octet_of-decimal : (n : ℕ) → n < 256 → octet_of (decimal n) ≡ Some n
unfolding octet_of
octet_of-decimal n small = rw (number_of-decimal n (omega arith), lt-ltb n 256 small) refl

-- If `option_map` of an option has a value, the option has a value.
mapped : {A B : Type 0} (f : A → B) (o : Option A) (y : B) → option_map f o ≡ Some y
    → (x : A) × (o ≡ Some x) × (f x ≡ y)
mapped f None y found = absurd (cc)
mapped f (Some x) y found = (x, refl, cc)

-- The four options have values, and `all` is the list of these values.
record Four (first second third fourth : Option ℕ) (all : List ℕ) : Type 0 where
  a : ℕ
  b : ℕ
  c : ℕ
  d : ℕ
  first_is : first ≡ Some a
  second_is : second ≡ Some b
  third_is : third ≡ Some c
  fourth_is : fourth ≡ Some d
  whole : all ≡ a ∷ b ∷ c ∷ d ∷ []

four_steps : (first second third fourth : Option ℕ) (all : List ℕ)
    → option_and_then (λ a. option_and_then (λ b. option_and_then (λ c. option_and_then (λ d. Some (a ∷ b ∷ c ∷ d ∷ [])) fourth) third) second) first ≡ Some all
    → Four first second third fourth all
four_steps (Some a) (Some b) (Some c) (Some d) all found = record {
  a = a;
  b = b;
  c = c;
  d = d;
  first_is = refl;
  second_is = refl;
  third_is = refl;
  fourth_is = refl;
  whole = cc;
}
four_steps first second third fourth all found = absurd (cc)

-- The text is the decimal texts of the four octets `all`, separated by points, and each octet is
-- below 256.
record Spelled (text all : List ℕ) : Type 0 where
  a : ℕ
  b : ℕ
  c : ℕ
  d : ℕ
  small_a : a < 256
  small_b : b < 256
  small_c : c < 256
  small_d : d < 256
  octets : all ≡ a ∷ b ∷ c ∷ d ∷ []
  whole : text ≡ decimal a ++ 46 ∷ (decimal b ++ 46 ∷ (decimal c ++ 46 ∷ decimal d))

behind_mark : (text : List ℕ) (a : ℕ) (rest : List ℕ) → octet_of (text_before 46 text) ≡ Some a
    → text_after 46 text ≡ rest → 0 < length rest → (a < 256) × (text ≡ decimal a ++ 46 ∷ rest)
behind_mark text a rest found after some =
    let spelled = octet_of-spelled (text_before 46 text) a found in
    let cut = cut_whole 46 text (rw after some) in
    (spelled.0, rw (after, spelled.1) at cut)

longer : (front : List ℕ) (mark : ℕ) (back : List ℕ) → 0 < length (front ++ mark ∷ back)
longer [] mark back = omega arith
longer (byte ∷ front) mark back = omega arith

octets_spelled : (text all : List ℕ) → octets_of text ≡ Some all → Spelled text all
unfolding octets_of
octets_spelled text all found =
    let rest1 = text_after 46 text in
    let rest2 = text_after 46 rest1 in
    let four = four_steps (octet_of (text_before 46 text)) (octet_of (text_before 46 rest1)) (octet_of (text_before 46 rest2)) (octet_of (text_after 46 rest2)) all found in
    let fourth = octet_of-spelled (text_after 46 rest2) four.d four.fourth_is in
    let third = behind_mark rest2 four.c (decimal four.d) four.third_is fourth.1 (decimal_nonempty four.d (omega (arith, fourth.0))) in
    let second = behind_mark rest1 four.b (decimal four.c ++ 46 ∷ decimal four.d) four.second_is third.1 (longer (decimal four.c) 46 _) in
    let first = behind_mark text four.a (decimal four.b ++ 46 ∷ (decimal four.c ++ 46 ∷ decimal four.d)) four.first_is second.1 (longer (decimal four.b) 46 _) in
    record {
      a = four.a;
      b = four.b;
      c = four.c;
      d = four.d;
      small_a = first.0;
      small_b = second.0;
      small_c = third.0;
      small_d = fourth.0;
      octets = four.whole;
      whole = first.1;
    }

-- If four octets are below 256, each item of their list is below 256.
four_small : (a b c d : ℕ) → a < 256 → b < 256 → c < 256 → d < 256 → (i : ℕ)
    → get_or (a ∷ b ∷ c ∷ d ∷ []) i 0 < 256
four_small a b c d ha hb hc hd zero = ha
four_small a b c d ha hb hc hd (suc zero) = hb
four_small a b c d ha hb hc hd (suc (suc zero)) = hc
four_small a b c d ha hb hc hd (suc (suc (suc zero))) = hd
four_small a b c d ha hb hc hd (suc (suc (suc (suc i)))) = lit< tt

-- Four octets below 256 make a number below 2^32, whose bytes are these octets.
four_number : (a b c d n : ℕ) → a < 256 → b < 256 → c < 256 → d < 256
    → from_be_bytes w32 (a ∷ b ∷ c ∷ d ∷ []) ≡ n
    → (n < 2 ^ 32) × (to_be_bytes w32 n ≡ a ∷ b ∷ c ∷ d ∷ [])
four_number a b c d n ha hb hc hd same = (
  omega (arith, same),
  be_bytes_4 (a ∷ b ∷ c ∷ d ∷ []) n refl (four_small a b c d ha hb hc hd) (sym same),
)

pub address_of-spelled : (text : List ℕ) (n : ℕ) → address_of text ≡ Some n
    → (n < 2 ^ 32) × (text ≡ address_text n)
unfolding address_of address_text
address_of-spelled text n found =
    let four = mapped (from_be_bytes w32) (octets_of text) n found in
    let spelled = octets_spelled text four.0 four.1 in
    let number = four_number spelled.a spelled.b spelled.c spelled.d n spelled.small_a spelled.small_b spelled.small_c spelled.small_d (ap (from_be_bytes w32) (sym spelled.octets) ∙ four.2) in
    (number.0, spelled.whole ∙ sym (ap (λ bytes. join_with_byte 46 (map decimal bytes)) number.1))

lacks_point : (n : ℕ) → n < 256 → Lacks 46 (decimal n)
lacks_point n small = Lacks-digits 46 (decimal n) (lit< tt) (digits_decimal own n (omega arith))

-- The text of four octets, separated by points, is read as these octets.
octets_of-written : (a b c d : ℕ) → a < 256 → b < 256 → c < 256 → d < 256
    → octets_of (decimal a ++ 46 ∷ (decimal b ++ 46 ∷ (decimal c ++ 46 ∷ decimal d))) ≡ Some (a ∷ b ∷ c ∷ d ∷ [])
unfolding octets_of
octets_of-written a b c d ha hb hc hd =
    let text1 = decimal b ++ 46 ∷ (decimal c ++ 46 ∷ decimal d) in
    let text2 = decimal c ++ 46 ∷ decimal d in
    rw (
      before-front 46 (decimal a) text1 (lacks_point a ha),
      after-front 46 (decimal a) text1 (lacks_point a ha),
      octet_of-decimal a ha,
      before-front 46 (decimal b) text2 (lacks_point b hb),
      after-front 46 (decimal b) text2 (lacks_point b hb),
      octet_of-decimal b hb,
      before-front 46 (decimal c) (decimal d) (lacks_point c hc),
      after-front 46 (decimal c) (decimal d) (lacks_point c hc),
      octet_of-decimal c hc,
      octet_of-decimal d hd,
    ) refl

-- The text of an address is read as this address.
pub address_of-address_text : (n : ℕ) → n < 2 ^ 32 → address_of (address_text n) ≡ Some n
unfolding address_of address_text
address_of-address_text n small =
    ap (option_map (from_be_bytes w32))
    (octets_of-written (n / 256 ^ 3 % 256) (n / 256 ^ 2 % 256) (n / 256 ^ 1 % 256) (n % 256) (omega arith) (omega arith) (omega arith) (omega arith))
    ∙ ap Some (from_be_bytes-to_be_bytes_4 n small)

-- A text is read as the address `n` exactly if it is the text of `n`.
pub addresses_spelled_once : AreAddressesSpelledOnce
addresses_spelled_once text n =
    (address_of-spelled text n, λ h. ap address_of h.1 ∙ address_of-address_text n h.0)

-- If the reader's result `r` is an address, the text is the text of this address.
pub address_ok : {E : Type 0} (text : List ℕ) (r : Result ℕ E) → result_ok r ≡ address_of text
    → IfOk r (λ n. text ≡ address_text n)
address_ok text r same =
    ok_spelled r (address_of text) (λ n. text ≡ address_text n) same
    (λ n found. (address_of-spelled text n found).1)

-- If the reader's result `r` is an error, the text isn't the text of an address.
pub address_err : {E : Type 0} (text : List ℕ) (r : Result ℕ E) → result_ok r ≡ address_of text
    → OnErr r ((n : ℕ) → n < 2 ^ 32 → text ≢ address_text n)
address_err text (Ok n) same = tt
address_err text (Err e) same =
    λ n small spelled. let found = ap address_of spelled ∙ address_of-address_text n small in cc

-- If a text is the text of an address, the reader's result `r` is this address.
pub address_only : {E : Type 0} (text : List ℕ) (r : Result ℕ E) → result_ok r ≡ address_of text
    → (n : ℕ) → n < 2 ^ 32 → text ≡ address_text n → r ≡ Ok n
address_only text r same n small spelled =
    only_spelled r (address_of text) same n
    (ap address_of spelled ∙ address_of-address_text n small)

-- No two addresses have the same text.
pub spelling_injective : IsAddressTextInjective
spelling_injective m n small_m small_n same =
    let found : Some m ≡ Some n = sym (address_of-address_text m small_m) ∙ (ap address_of same ∙ address_of-address_text n small_n) in
    cc
