-- The hexadecimal digits of an EXPLICIT_ROUTE object, and the bytes that they decode to.
use Rattle.std.proofs.Common.{◌≡◌, ℕ, zero, suc, ◌+◌, ◌*◌, ◌%◌, ◌≤◌, inl, inr, List, [], ◌∷◌, ◌++◌, false, is_ok, length, take, min, Result, Ok, Err, refl, sym, ap, ◌∙◌, arith}
use Rattle.std.proofs.lemmas.Bool.{cases_lt}
use Rattle.std.proofs.lemmas.List.{take_all, length-take-le, take-append-le}
use Rattle.std.specs.List.{AllPass}
use Rattle.hex.specs.Hex.{◌>>=◌, is_hex_digit, pair_value, decode_pairs, decode_of, decode_sized}
use Rattle.hex.specs.declared.error.FromHexError.{FromHexError}
use Rattle.std.specs.Result.{result_map_both}
use Rattle.cspf_addr.specs.declared.hop.Hop.{Hop}
use Rattle.cspf_ero.specs.Reading.{ero_of}
use Rattle.cspf_ero.specs.declared.ero_error.EroError.{EroError}
use Rattle.hex.proofs.HexLemmas.{decode_of-digits, decode_of-even, decode_of-ok, decode_sized-twice}
use Rattle.cspf_rows.specs.declared.row_error.HopsFault.TheVariants as fault
use Rattle.cspf_rows.specs.FieldValues.{object_hops_of, hex_hops_of}

-- Let two decoding steps, one after the other, give the value `b`. Then the first step gave a
-- value, and the second step made `b` from this value.
both_decoded : {A B : Type 0} (r : Result A FromHexError) (more : A → Result B FromHexError) (b : B) → (r >>= more) ≡ Ok b → (a : A) × (r ≡ Ok a) × (more a ≡ Ok b)
both_decoded (Ok a) more b same = (a, refl, same)
both_decoded (Err e) more b same = absurd (cc)

-- Let two digits decode to `byte`, and the next `2 * count` digits to the first `count` bytes of
-- `rest`. Then all these digits decode to `byte` followed by these `count` bytes.
pair_more : (at count high low byte : ℕ) (digits rest : List ℕ) → pair_value high low at ≡ Ok byte → decode_pairs (at + 2) (take (2 * count) digits) ≡ Ok (take count rest)
    → decode_pairs at (take (2 * suc count) (high ∷ low ∷ digits)) ≡ Ok (take (suc count) (byte ∷ rest))
unfolding decode_pairs
pair_more at count high low byte digits rest first later =
    let two : 2 * suc count ≡ suc (suc (2 * count)) = omega arith in
    rw (two, first, later) refl

-- if digits decode to bytes, the first `2 * count` digits decode to the first `count` bytes
decode_pairs-take : (at count : ℕ) (digits bytes : List ℕ) → decode_pairs at digits ≡ Ok bytes → decode_pairs at (take (2 * count) digits) ≡ Ok (take count bytes)
unfolding decode_pairs
decode_pairs-take at zero digits bytes found = refl
decode_pairs-take at (suc count) [] bytes found =
    let none : [] ≡ bytes = cc found in
    rw (← none) (ap (decode_pairs at) (take_all (2 * suc count) [] (omega arith)))
decode_pairs-take at (suc count) (digit ∷ []) bytes found = absurd (cc)
decode_pairs-take at (suc count) (high ∷ low ∷ digits) bytes found =
    let (byte, first, more) = both_decoded (pair_value high low at) _ bytes found in
    let (rest, later, all) = both_decoded (decode_pairs (at + 2) digits) _ bytes more in
    let whole : byte ∷ rest ≡ bytes = cc all in
    pair_more at count high low byte digits rest first (decode_pairs-take (at + 2) count digits rest later) ∙ ap (λ all_bytes. Ok (take (suc count) all_bytes)) whole

-- if digits decode to bytes, the first `2 * count` digits decode to the first `count` bytes
pub front_decoded : (count : ℕ) (digits bytes : List ℕ) → decode_of digits ≡ Ok bytes → 2 * count ≤ length digits → decode_sized (take (2 * count) digits) count ≡ Ok (take count bytes)
front_decoded count digits bytes found within =
    let parts = decode_of-ok digits bytes found in
    let size : length digits ≡ 2 * length bytes = parts.2 in
    let twice : length (take (2 * count) digits) ≡ 2 * count = length-take-le (2 * count) digits (omega arith) in
    decode_sized-twice (take (2 * count) digits) count twice
    ∙ (decode_of-even (take (2 * count) digits) (omega arith)
    ∙ decode_pairs-take 0 count digits bytes (sym (decode_of-even digits parts.0) ∙ found))

-- a text that doesn't consist of an even number of hexadecimal digits is refused as `Hex`
pub not_pairs : (digits : List ℕ) → ((length digits % 2 ≡ 0) × AllPass is_hex_digit digits → ⊥) → hex_hops_of digits ≡ Err fault.Hex
unfolding hex_hops_of
not_pairs digits other = refused (decode_of digits) refl
  where
    refused : (decoded : Result (List ℕ) FromHexError) → decode_of digits ≡ decoded → object_hops_of decoded ≡ Err fault.Hex
    refused (Ok bytes) found = let parts = decode_of-ok digits bytes found in absurd (other (parts.0, parts.1))
    refused (Err e) found = refl

-- an even number of hexadecimal digits decodes to half as many bytes
pub pairs_decoded : (digits : List ℕ) → (length digits % 2 ≡ 0) × AllPass is_hex_digit digits → (bytes : List ℕ) × (decode_of digits ≡ Ok bytes) × (length digits ≡ 2 * length bytes)
pairs_decoded digits pairs =
    let (bytes, found) = decode_of-digits digits pairs.0 pairs.1 in
    (bytes, found, (decode_of-ok digits bytes found).2)

-- Let `count` be the smaller of 64 and the size of an object. The first `count` bytes of the object
-- are then its first 64 bytes.
pub front_taken : (size count : ℕ) (bytes : List ℕ) → length bytes ≡ size → count ≡ min size 64 → take 64 bytes ≡ take count bytes
front_taken size count bytes same least =
    elim (cases_lt 64 (length bytes)) [
      | inl long ↦
          let all : 64 ≡ count = omega arith in
          rw all refl
      | inr short ↦ take_all 64 bytes (omega arith) ∙ sym (take_all count bytes (omega arith))
    ]

-- `is_ok` isn't false for a result that is a value
pub no_error : {A E : Type 0} (r : Result A E) (x : A) → r ≡ Ok x → false ≡ is_ok r → ⊥
no_error (Ok y) x same told = cc
no_error (Err e) x same told = cc

-- if pairs of digits decode to bytes, the digits are read as the hops that these bytes spell
pub hex_hops_of-pairs : (digits : List ℕ) (read : Result (List Hop) EroError) → (length digits % 2 ≡ 0) × AllPass is_hex_digit digits
    → ((bytes : List ℕ) → decode_of digits ≡ Ok bytes → read ≡ ero_of bytes) → hex_hops_of digits ≡ result_map_both (λ hops. hops) fault.Ero read
unfolding hex_hops_of
hex_hops_of-pairs digits read pairs each =
    let (bytes, found, size) = pairs_decoded digits pairs in
    ap object_hops_of found ∙ sym (ap (λ r. result_map_both (λ (hops : List Hop). hops) fault.Ero r) (each bytes found))

-- Let a buffer have room for `count` bytes. If decoded bytes are written to its start, the buffer
-- begins with the first `count` of these bytes.
pub front_placed : (count : ℕ) (bytes front place back : List ℕ) → count ≤ length place → count ≤ length bytes → front ≡ take (length (take count place)) bytes
    → take count (front ++ back) ≡ take count bytes
front_placed count bytes front place back room within written =
    let same : front ≡ take count bytes = written ∙ ap (λ n. take n bytes) (length-take-le count place room) in
    let size : length front ≡ count = ap length same ∙ length-take-le count bytes within in
    take-append-le count front back (omega arith) ∙ (take_all count front (omega arith) ∙ same)
