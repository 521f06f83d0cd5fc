-- How masks are written: `0x` and one to eight hexadecimal digits.
use Rattle.std.specs.Prelude.{◌≡◌, ℕ, ◌/◌, ◌%◌, ◌^◌, ◌<◌, ◌≤◌, ◌↔◌, Bool, false, ◌&&◌, nat_lt, nat_le, nat_eq, if◌then◌else◌, List, [], ◌∷◌, ◌++◌, length, drop, codes, IsTrue, Option, Some, None}
use Rattle.std.specs.Fmt.{digit_glyph}
use Rattle.std.specs.Int.{w32, to_be_bytes}
use Rattle.std.specs.List.{starts_with, flat_map}
use Rattle.std.specs.Str.Parse.{digits_value}
use Rattle.cspf_addr.specs.Numbers.{are_digits}

-- The text is `0x` and one to eight hexadecimal digits, upper or lower case. `n` is the value of
-- the digits.
pub record SpellsMask (text : List ℕ) (n : ℕ) : Type 0 where
  pub digits : List ℕ
  pub whole : text ≡ codes "0x" ++ digits
  pub some : 1 ≤ length digits
  pub most : length digits ≤ 8
  pub hexadecimal : IsTrue (are_digits 16 digits)
  pub value : n ≡ digits_value 16 digits

-- The bytes are one to eight hexadecimal digits.
abbrev pub are_mask_digits : List ℕ → Bool
are_mask_digits digits =
    nat_lt 0 (length digits) && nat_le (length digits) 8 && are_digits 16 digits

-- the bits of the mask that a text spells
unfoldable pub mask_of : List ℕ → Option ℕ
mask_of text =
    if starts_with nat_eq text (codes "0x") && are_mask_digits (drop 2 text)
    then Some (digits_value 16 (drop 2 text))
    else None

-- A text is read as the mask `n` exactly if it spells `n`.
abbrev pub AreMasksRead : Type 0
AreMasksRead = (text : List ℕ) (n : ℕ) → (mask_of text ≡ Some n) ↔ SpellsMask text n

-- A text spells at most one mask.
abbrev pub SpellsOneMask : Type 0
SpellsOneMask = (text : List ℕ) (m n : ℕ) → SpellsMask text m → SpellsMask text n → m ≡ n

-- the two lower-case hexadecimal digits of a byte
abbrev pub byte_digits : ℕ → List ℕ
byte_digits byte = digit_glyph false (byte / 16) ∷ digit_glyph false (byte % 16) ∷ []

-- the text of the mask with these bits
unfoldable pub mask_text : ℕ → List ℕ
mask_text bits = codes "0x" ++ flat_map byte_digits (to_be_bytes w32 bits)

-- A mask is read back from its text.
abbrev pub AreMasksReadBack : Type 0
AreMasksReadBack = (bits : ℕ) → bits < 2 ^ 32 → mask_of (mask_text bits) ≡ Some bits
