-- Lemmas on the texts of masks: which text is read as which mask.
use Rattle.std.proofs.Common.{◌≡◌, ℕ, ◌^◌, ◌<◌, ◌≤◌, Bool, true, false, cond, List, ◌++◌, length, take, drop, codes, Some, None, Result, Ok, IfOk, OnErr, lit<, refl, sym, ap, ◌∙◌, arith, ◌+◌, ◌*◌, ◌/◌, ◌%◌, [], ◌∷◌, map}
use Rattle.std.proofs.lemmas.Bool.{ltb-true, lt-ltb, leb-true, le-leb}
use Rattle.std.proofs.lemmas.Int.Digits.{digits_value-lt, digits_value_is}
use Rattle.std.proofs.lemmas.List.{take-append-drop}
use Rattle.std.proofs.Math.Nat.{pow-le-pow_right}
use Rattle.std.specs.Cmp.Lexicographic.{bytes_decides}
use Rattle.std.specs.Result.{result_ok}
use Rattle.std.specs.Fmt.{digit_glyph}
use Rattle.std.specs.Char.{digit_value}
use Rattle.std.specs.List.{flat_map, AllByRecursion}
use Rattle.std.specs.Int.{w32, to_be_bytes}
use Rattle.std.specs.Int.Digits.{number_from_digits, number_from_digits_after}
use Rattle.std.proofs.lemmas.Bool.Decides.{nat_tests}
use Rattle.std.proofs.lemmas.Nat.{from_be_bytes-to_be_bytes_4}
use Rattle.std.specs.Str.Parse.{AllDigits, digits_value}
use Rattle.cspf_addr.specs.Numbers.{are_digits}
use Rattle.cspf_addr.specs.MaskText.{SpellsMask, mask_of, AreMasksRead, SpellsOneMask, AreMasksReadBack, byte_digits, mask_text}
use Rattle.cspf_addr.proofs.DigitLemmas.{and_parts, AllDigits-are_digits, are_digits-AllDigits}
use Rattle.cspf_addr.proofs.NumberLemmas.{chosen}
use Rattle.cspf_addr.proofs.Readers.{ok_spelled, err_unspelled, only_spelled}

-- The value of up to eight hexadecimal digits is below 2^32.
pub short_value : (digits : List ℕ) → length digits ≤ 8 → are_digits 16 digits ≡ true
    → digits_value 16 digits < 2 ^ 32
short_value digits short all =
    let most : 16 ^ length digits ≤ 16 ^ 8 = pow-le-pow_right (lit< tt) short in
    omega (arith, most, digits_value-lt 16 digits (AllDigits-are_digits 16 digits all))

-- If up to eight bytes aren't all hexadecimal digits, or their value is 2^64 or more, they aren't
-- read as the digits of a mask.
pub word_none : (digits : List ℕ) → length digits ≤ 8
    → (are_digits 16 digits ≡ true → 2 ^ 64 ≤ digits_value 16 digits)
    → None ≡ cond (are_digits 16 digits) (Some (digits_value 16 digits)) None
word_none digits short large = refused _ digits refl short large
  where
    refused : (b : Bool) (digits : List ℕ) → are_digits 16 digits ≡ b → length digits ≤ 8
        → (b ≡ true → 2 ^ 64 ≤ digits_value 16 digits)
        → None ≡ cond b (Some (digits_value 16 digits)) None
    refused true digits all short large =
        absurd (omega (arith, large refl, short_value digits short all))
    refused false digits all short large = refl

mask_of-spelled : (text : List ℕ) (n : ℕ) → mask_of text ≡ Some n → SpellsMask text n
unfolding mask_of
mask_of-spelled text n found =
    let choice = chosen _ _ _ found in
    let parts = and_parts _ _ choice.0 in
    let digits = and_parts _ _ parts.1 in
    let bounds = and_parts _ _ digits.0 in
    let front : take 2 text ≡ codes "0x" = sym ((bytes_decides (codes "0x") (take 2 text)).0 parts.0) in
    record {
      digits = drop 2 text;
      whole = sym (take-append-drop 2 text) ∙ ap (λ start. start ++ drop 2 text) front;
      some = ltb-true _ _ bounds.0;
      most = leb-true _ _ bounds.1;
      hexadecimal = digits.1;
      value = sym choice.1;
    }

mask_of-digits : (digits : List ℕ) → 1 ≤ length digits → length digits ≤ 8
    → are_digits 16 digits ≡ true → mask_of (codes "0x" ++ digits) ≡ Some (digits_value 16 digits)
unfolding mask_of
mask_of-digits digits some most all =
    rw (lt-ltb 0 (length digits) some, le-leb (length digits) 8 most, all) refl

mask_of-spells : (text : List ℕ) (n : ℕ) → SpellsMask text n → mask_of text ≡ Some n
mask_of-spells text n spells =
    ap mask_of spells.whole
    ∙ (mask_of-digits spells.digits spells.some spells.most spells.hexadecimal ∙ ap Some (sym spells.value))

-- A text is read as the mask `n` exactly if it spells `n`.
pub masks_read : AreMasksRead
masks_read text n = (mask_of-spelled text n, mask_of-spells text n)

-- If the reader's result `r` is a mask, the text spells this mask.
pub mask_ok : {E : Type 0} (text : List ℕ) (r : Result ℕ E) → result_ok r ≡ mask_of text
    → IfOk r (SpellsMask text)
mask_ok text r same = ok_spelled r (mask_of text) (SpellsMask text) same (mask_of-spelled text)

-- If the reader's result `r` is an error, the text spells no mask.
pub mask_err : {E : Type 0} (text : List ℕ) (r : Result ℕ E) → result_ok r ≡ mask_of text
    → OnErr r ((n : ℕ) → SpellsMask text n → ⊥)
mask_err text r same = err_unspelled r (mask_of text) (SpellsMask text) same (mask_of-spells text)

-- If a text spells a mask, the reader's result `r` is this mask.
pub mask_only : {E : Type 0} (text : List ℕ) (r : Result ℕ E) → result_ok r ≡ mask_of text → (n : ℕ)
    → SpellsMask text n → r ≡ Ok n
mask_only text r same n spells = only_spelled r (mask_of text) same n (mask_of-spells text n spells)

-- A text spells at most one mask.
pub spells_one_mask : SpellsOneMask
spells_one_mask text m n spells_m spells_n =
    let found : Some m ≡ Some n = sym (mask_of-spells text m spells_m) ∙ mask_of-spells text n spells_n in
    cc

-- If a number below 16 is written as a hexadecimal digit, the value of this digit is the number.
glyph_value : (d : ℕ) → d < 16 → digit_value (digit_glyph false d) ≡ d
glyph_value d small = grind (arith, nat_tests)

-- the values of the two hexadecimal digits of a byte
abbrev halves : ℕ → List ℕ
halves byte = byte / 16 ∷ byte % 16 ∷ []

glyph_values : (bytes : List ℕ) → AllByRecursion (λ byte. byte < 256) bytes
    → map digit_value (flat_map byte_digits bytes) ≡ flat_map halves bytes
glyph_values [] small = refl
glyph_values (byte ∷ bytes) small =
    rw (glyph_value (byte / 16) (omega (arith, small.0)), glyph_value (byte % 16) (omega arith), glyph_values bytes small.1) refl

glyph_digits : (bytes : List ℕ) → AllByRecursion (λ byte. byte < 256) bytes
    → AllDigits 16 (flat_map byte_digits bytes)
glyph_digits [] small = tt
glyph_digits (byte ∷ bytes) small = (
  omega (arith, glyph_value (byte / 16) (omega (arith, small.0)), small.0),
  (omega (arith, glyph_value (byte % 16) (omega arith)), glyph_digits bytes small.1),
)

-- A list of bytes and the list of their hexadecimal digits make the same number.
halves_number : (n : ℕ) (bytes : List ℕ)
    → number_from_digits_after 16 n (flat_map halves bytes) ≡ number_from_digits_after 256 n bytes
halves_number n [] = refl
halves_number n (byte ∷ bytes) =
    halves_number ((n * 16 + byte / 16) * 16 + byte % 16) bytes
    ∙ ap (λ m. number_from_digits_after 256 m bytes) (whole n byte)
  where
    whole : (n byte : ℕ) → (n * 16 + byte / 16) * 16 + byte % 16 ≡ n * 256 + byte
    whole n byte = omega arith

glyphs_length : (bytes : List ℕ) → length (flat_map byte_digits bytes) ≡ 2 * length bytes
glyphs_length [] = refl
glyphs_length (byte ∷ bytes) = omega (arith, glyphs_length bytes)

mask_of-bytes : (bytes : List ℕ) → length bytes ≡ 4 → AllByRecursion (λ byte. byte < 256) bytes
    → mask_of (codes "0x" ++ flat_map byte_digits bytes) ≡ Some (number_from_digits 256 bytes)
mask_of-bytes bytes four small =
    mask_of-digits (flat_map byte_digits bytes) (omega (arith, glyphs_length bytes))
    (omega (arith, glyphs_length bytes))
    (are_digits-AllDigits 16 (flat_map byte_digits bytes) (glyph_digits bytes small))
    ∙ ap Some
    (digits_value_is 16 (flat_map byte_digits bytes) ∙ (ap (number_from_digits 16) (glyph_values bytes small) ∙ halves_number 0 bytes))

same_bytes : (a b c d n : ℕ) → a * 256 ^ 3 + b * 256 ^ 2 + c * 256 ^ 1 + d ≡ n
    → number_from_digits 256 (a ∷ b ∷ c ∷ d ∷ []) ≡ n
same_bytes a b c d n same = omega (arith, same)

-- A mask is read back from its text.
pub mask_of-mask_text : AreMasksReadBack
unfolding mask_text
mask_of-mask_text bits small =
    mask_of-bytes (to_be_bytes w32 bits) refl
    (omega arith, (omega arith, (omega arith, (omega arith, tt))))
    ∙ ap Some
    (same_bytes (bits / 256 ^ 3 % 256) (bits / 256 ^ 2 % 256) (bits / 256 ^ 1 % 256) (bits % 256) bits (from_be_bytes-to_be_bytes_4 bits small))
