-- Prefixes of addresses (RFC 3209 4.3.3.2): which addresses they cover, and how they are written.
use Rattle.std.specs.Prelude.{◌≡◌, ◌≢◌, ℕ, ◌-◌, ◌/◌, ◌^◌, ◌<◌, nat_le, if◌then◌else◌, List, ◌∷◌, ◌++◌, IsTrue, Result, Ok, Err}
use Rattle.std.specs.Fmt.{decimal}
use Rattle.std.specs.Option.{ok_or}
use Rattle.std.specs.Str.Parse.{digits_value}
use Rattle.cspf_addr.specs.ResultSteps.{◌>>=◌}
use Rattle.cspf_addr.specs.Numbers.{is_decimal}
use Rattle.cspf_addr.specs.AddressText.{address_text, address_of, text_before, text_after}
use Rattle.cspf_addr.specs.PrefixParts.{PrefixParts, IsPrefix, with_first_bits}
use Rattle.cspf_addr.specs.declared.prefix.PrefixError.{PrefixError}
use Rattle.cspf_addr.specs.declared.prefix.PrefixError.TheVariants as error

-- The address begins with the bits of the prefix.
abbrev pub Covers : PrefixParts → ℕ → Type 0
Covers prefix address =
    prefix.address / 2 ^ (32 - prefix.length) ≡ address / 2 ^ (32 - prefix.length)

-- the prefix length, at most 32, that a text of digits spells
unfoldable pub length_of : List ℕ → Result ℕ PrefixError
length_of text =
    if is_decimal text
    then (if nat_le (digits_value 10 text) 32 then Ok (digits_value 10 text) else Err error.TooLong)
    else Err error.NotAPrefix

-- the prefix that a text spells: an address, a slash and a length
unfoldable pub prefix_of : List ℕ → Result PrefixParts PrefixError
prefix_of text = do
  address ← ok_or (address_of (text_before 47 text)) error.NotAPrefix
  length ← length_of (text_after 47 text)
  Ok (with_first_bits length address)

-- the text of a prefix
unfoldable pub prefix_text : PrefixParts → List ℕ
prefix_text prefix = address_text prefix.address ++ 47 ∷ decimal prefix.length

-- The text is an address, a slash and these decimal digits without leading zeros.
pub record IsPrefixText (text : List ℕ) (address : ℕ) (digits : List ℕ) : Type 0 where
  pub small : address < 2 ^ 32
  pub decimal : IsTrue (is_decimal digits)
  pub whole : text ≡ address_text address ++ 47 ∷ digits

-- the prefix of this length with the first bits of the address, or the error `TooLong` if the
-- length is above 32
abbrev pub prefix_with : ℕ → ℕ → Result PrefixParts PrefixError
prefix_with length address =
    if nat_le length 32 then Ok (with_first_bits length address) else Err error.TooLong

-- A text of an address, a slash and decimal digits is read as a prefix. The prefix length is the
-- value of the digits, and the prefix has the first bits of the address. A value above 32 is
-- refused as `TooLong`.
abbrev pub ArePrefixTextsRead : Type 0
ArePrefixTextsRead =
    (text : List ℕ) (address : ℕ) (digits : List ℕ) → IsPrefixText text address digits
    → prefix_of text ≡ prefix_with (digits_value 10 digits) address

-- If a text isn't refused as `NotAPrefix`, it is an address, a slash and decimal digits.
abbrev pub AreOthersRefused : Type 0
AreOthersRefused = (text : List ℕ) → prefix_of text ≢ Err error.NotAPrefix
    → (address : ℕ) × (digits : List ℕ) × IsPrefixText text address digits

-- A prefix is read back from its text.
abbrev pub ArePrefixesReadBack : Type 0
ArePrefixesReadBack =
    (prefix : PrefixParts) → IsPrefix prefix → prefix_of (prefix_text prefix) ≡ Ok prefix
