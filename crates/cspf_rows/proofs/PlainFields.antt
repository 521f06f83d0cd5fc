-- The texts of numbers, addresses and masks need no quotes in `csv`.
use Rattle.std.proofs.Common.{◌≡◌, ℕ, ◌^◌, ◌<◌, ◌≤◌, Bool, true, false, ◌||◌, ◌&&◌, ◌==◌, List, [], ◌∷◌, ◌++◌, map, length, codes, slice_index, suc, refl, inl, inr, arith}
use Rattle.std.proofs.lemmas.Bool.{cases_Bool, eqb-true, ltb-true}
use Rattle.std.proofs.lemmas.Fmt.{decimal_is_IsNumeral}
use Rattle.std.proofs.lemmas.List.Folds.{list_any-append}
use Rattle.std.specs.Char.{digit_value}
use Rattle.std.specs.Fmt.{decimal}
use Rattle.std.specs.Int.{w32, to_be_bytes}
use Rattle.std.specs.List.{list_any, join_with_byte}
use Rattle.std.specs.Str.Parse.{AllDigits}
use Rattle.csv.specs.Writing.{default_writer, needs_byte}
use Rattle.cspf_addr.specs.Numbers.{are_digits}
use Rattle.cspf_addr.specs.AddressText.{address_text}
use Rattle.cspf_addr.specs.MaskText.{SpellsMask}

-- a field that csv writes without quotes
abbrev pub IsUnquoted : List ℕ → Type 0
IsUnquoted x = list_any (needs_byte default_writer) x ≡ false

-- fields that csv writes without quotes
abbrev pub AreUnquoted : List (List ℕ) → Type 0
AreUnquoted [] = Unit {0}
AreUnquoted (x ∷ xs) = IsUnquoted x × AreUnquoted xs

-- a byte that is neither a digit nor a letter differs from each digit and each letter
other_byte : (b k : ℕ) → 36 ≤ digit_value k → digit_value b < 36 → (b == k) ≡ false
other_byte b k none some = elim (cases_Bool (b == k)) [
  | inl same ↦ absurd (let h : digit_value k < 36 = rw (eqb-true b k same) at some in omega arith)
  | inr other ↦ other
]

-- a digit or a letter needs no quotes
digit_unquoted : (b : ℕ) → digit_value b < 36 → needs_byte default_writer b ≡ false
digit_unquoted b h = rw (other_byte b 44 (omega arith) h, other_byte b 34 (omega arith) h, other_byte b 13 (omega arith) h, other_byte b 10 (omega arith) h) refl

both_false : (x y : Bool) → x ≡ false → y ≡ false → (x || y) ≡ false
both_false x y a b = rw (a, b) refl

digits_unquoted : (base : ℕ) (ds : List ℕ) → base ≤ 36 → AllDigits base ds → IsUnquoted ds
digits_unquoted base [] small h = refl
digits_unquoted base (c ∷ cs) small h = both_false _ _ (digit_unquoted c (omega (arith, h.0))) (digits_unquoted base cs small h.1)

pub decimal_unquoted : (n : ℕ) → n < 2 ^ 64 → IsUnquoted (decimal n)
decimal_unquoted n small = digits_unquoted 10 (decimal n) (omega arith) (decimal_is_IsNumeral n small).0.1

pub decimals_unquoted : (ns : List ℕ) → ((k : ℕ) → k < length ns → slice_index ns k < 2 ^ 64) → AreUnquoted (map decimal ns)
decimals_unquoted [] small = tt
decimals_unquoted (n ∷ ns) small = (decimal_unquoted n (small 0 (omega arith)), decimals_unquoted ns (λ k within. small (suc k) (omega arith)))

append_unquoted : (xs ys : List ℕ) → IsUnquoted xs → IsUnquoted ys → IsUnquoted (xs ++ ys)
append_unquoted xs ys a b = rw (list_any-append (needs_byte default_writer) xs ys) (both_false _ _ a b)

join_unquoted : (xs : List (List ℕ)) → AreUnquoted xs → IsUnquoted (join_with_byte 46 xs)
join_unquoted [] h = refl
join_unquoted (x ∷ []) h = h.0
join_unquoted (x ∷ y ∷ ys) h = append_unquoted x (46 ∷ join_with_byte 46 (y ∷ ys)) h.0 (join_unquoted (y ∷ ys) h.1)

pub address_unquoted : (n : ℕ) → IsUnquoted (address_text n)
unfolding address_text
address_unquoted n = join_unquoted (map decimal (to_be_bytes w32 n)) ((decimal_unquoted _ (omega arith)), (decimal_unquoted _ (omega arith), (decimal_unquoted _ (omega arith), (decimal_unquoted _ (omega arith), tt))))

and_parts : (x y : Bool) → (x && y) ≡ true → (x ≡ true) × (y ≡ true)
and_parts true y h = (refl, h)
and_parts false y h = absurd (cc)

AllDigits-are_digits : (base : ℕ) (ds : List ℕ) → are_digits base ds ≡ true → AllDigits base ds
unfolding are_digits
AllDigits-are_digits base [] h = tt
AllDigits-are_digits base (c ∷ cs) h =
    let parts = and_parts _ _ h in
    (ltb-true _ _ parts.0, AllDigits-are_digits base cs parts.1)

pub mask_unquoted : (text : List ℕ) (n : ℕ) → SpellsMask text n → IsUnquoted text
mask_unquoted text n spells =
    rw spells.whole (append_unquoted (codes "0x") spells.digits refl (digits_unquoted 16 spells.digits (omega arith) (AllDigits-are_digits 16 spells.digits spells.hexadecimal)))
