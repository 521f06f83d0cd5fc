-- The digits that `hex` writes are the digits of a mask's text.
use Rattle.std.proofs.Common.{◌≡◌, ℕ, zero, suc, ◌/◌, ◌%◌, ◌<◌, ◌==◌, ◌&&◌, inl, inr, Bool, true, false, refl, codes, ◌++◌, append_assoc, List, [], ◌∷◌, slice_index, arith}
use Rattle.std.proofs.lemmas.Bool.{and_parts, cases_lt, eqb-true}
use Rattle.std.specs.Int.{w32, to_be_bytes}
use Rattle.std.specs.Fmt.{digit_glyph}
use Rattle.std.specs.List.{flat_map, AllByRecursion}
use Rattle.hex.specs.Hex.{encode_with, encode_lower, lower_digits}
use Rattle.cspf_addr.specs.MaskText.{byte_digits, mask_text}

-- whether `hex` and `mask_text` write the same digit for each number below `n`; a computation
-- proves this for a given `n`
abbrev are_alike : ℕ → Bool
are_alike zero = true
are_alike (suc n) = (slice_index lower_digits n == digit_glyph false n) && are_alike n

are_alike-at : (n d : ℕ) → are_alike n ≡ true → d < n → slice_index lower_digits d ≡ digit_glyph false d
are_alike-at zero d alike below = absurd (omega arith)
are_alike-at (suc n) d alike below =
    let parts = and_parts (slice_index lower_digits n == digit_glyph false n) (are_alike n) alike in
    elim (cases_lt d n) [
      | inl less ↦ are_alike-at n d parts.1 less
      | inr top ↦
          let e : d ≡ n = omega arith in
          rw e (eqb-true (slice_index lower_digits n) (digit_glyph false n) parts.0)
    ]

bytes_digits : (bytes : List ℕ) → AllByRecursion (λ byte. byte < 256) bytes → encode_lower bytes ≡ flat_map byte_digits bytes
unfolding encode_with
bytes_digits [] small = refl
bytes_digits (byte ∷ bytes) small =
    rw (are_alike-at 16 (byte / 16) refl (omega (arith, small.0)), are_alike-at 16 (byte % 16) refl (omega arith), bytes_digits bytes small.1) refl

-- A comma, `0x` and the digits that `hex` writes for a mask are a comma and the text of this mask.
pub mask_digits : (bits : ℕ) (old mid new digits : List ℕ) → digits ≡ encode_lower (to_be_bytes w32 bits) → mid ≡ old ++ codes ",0x"
    → new ≡ mid ++ digits → new ≡ old ++ (44 ∷ mask_text bits)
unfolding mask_text
mask_digits bits old mid new digits spelled before after =
    rw (after, before, spelled, bytes_digits (to_be_bytes w32 bits) (omega arith, (omega arith, (omega arith, (omega arith, tt)))))
    (append_assoc old (codes ",0x") (flat_map byte_digits (to_be_bytes w32 bits)))
