-- How addresses are written: four bytes in decimal, separated by points.
use Rattle.std.specs.Prelude.{◌≡◌, ℕ, ◌^◌, ◌<◌, ◌↔◌, ◌==◌, nat_lt, if◌then◌else◌, List, [], ◌∷◌, map, Option, Some, None}
use Rattle.std.specs.Fmt.{decimal}
use Rattle.std.specs.Int.{w32, to_be_bytes, from_be_bytes}
use Rattle.std.specs.List.{join_with_byte, before_first, after_first}
use Rattle.std.specs.Option.{option_map}
use Rattle.cspf_addr.specs.OptionSteps.{◌>>=◌}
use Rattle.cspf_addr.specs.Numbers.{number_of}

-- the text of the address with this number
unfoldable pub address_text : ℕ → List ℕ
address_text n = join_with_byte 46 (map decimal (to_be_bytes w32 n))

-- the part of a text before its first byte `mark`, or the whole text if no byte is `mark`
unfoldable pub text_before : ℕ → List ℕ → List ℕ
text_before mark text = before_first (λ byte. byte == mark) text

-- the part of a text after its first byte `mark`, or the empty text if no byte is `mark`
unfoldable pub text_after : ℕ → List ℕ → List ℕ
text_after mark text = after_first (λ byte. byte == mark) text

-- the number that a text spells, or `None` if it spells no number of at most 255
unfoldable pub octet_of : List ℕ → Option ℕ
octet_of text = do
  n ← number_of text
  if nat_lt n 256 then Some n else None

-- the four numbers of a text of four numbers that are separated by points
unfoldable pub octets_of : List ℕ → Option (List ℕ)
octets_of text = do
  first ← octet_of (text_before 46 text)
  let behind_first = text_after 46 text
  second ← octet_of (text_before 46 behind_first)
  let behind_second = text_after 46 behind_first
  third ← octet_of (text_before 46 behind_second)
  fourth ← octet_of (text_after 46 behind_second)
  Some (first ∷ second ∷ third ∷ fourth ∷ [])

-- the address that a text spells, as a number
unfoldable pub address_of : List ℕ → Option ℕ
address_of text = option_map (from_be_bytes w32) (octets_of text)

-- A text is read as the address `n` exactly if it is the text of `n`.
abbrev pub AreAddressesSpelledOnce : Type 0
AreAddressesSpelledOnce =
    (text : List ℕ) (n : ℕ)
    → (address_of text ≡ Some n) ↔ ((n < 2 ^ 32) × (text ≡ address_text n))

-- No two addresses have the same text.
abbrev pub IsAddressTextInjective : Type 0
IsAddressTextInjective =
    (m n : ℕ) → m < 2 ^ 32 → n < 2 ^ 32 → address_text m ≡ address_text n → m ≡ n
