-- What the fields of a record spell. Fields count from 1: field 1 is the word that names the row's
-- kind.
use Rattle.std.specs.Prelude.{ℕ, ◌-◌, ◌^◌, nat_lt, nat_eq, Bool, true, false, ◌==◌, if◌then◌else◌, List, [], drop, codes, unwrap_or, Result, Ok, Err}
use Rattle.std.specs.List.{starts_with}
use Rattle.std.specs.Option.{ok_or}
use Rattle.std.specs.Result.{result_map_both}
use Rattle.csv.specs.Records.{field_at}
use Rattle.hex.specs.Hex.{decode_of}
use Rattle.hex.specs.declared.error.FromHexError.{FromHexError}
use Rattle.cspf_addr.specs.ResultSteps.{◌>>=◌}
use Rattle.cspf_addr.specs.Numbers.{number_of}
use Rattle.cspf_addr.specs.AddressText.{address_of}
use Rattle.cspf_addr.specs.MaskText.{mask_of}
use Rattle.cspf_addr.specs.HopLists.{hops_of}
use Rattle.cspf_addr.specs.declared.hop.Hop.{Hop}
use Rattle.cspf_ero.specs.Reading.{ero_of}
use Rattle.cspf_rows.specs.declared.row_error.HopsFault.{HopsFault}
use Rattle.cspf_rows.specs.declared.row_error.HopsFault.TheVariants as fault
use Rattle.cspf_rows.specs.declared.row_error.RowError.{RowError}
use Rattle.cspf_rows.specs.declared.row_error.RowError.TheVariants as error

-- field `place`, counted from 1; a field past the last one is empty
abbrev pub field : List (List ℕ) → ℕ → List ℕ
field fields place = unwrap_or (field_at fields (place - 1)) []

-- the number below 2^64 that field `place` spells
unfoldable pub number_at : List (List ℕ) → ℕ → Result ℕ RowError
number_at fields place = ok_or (number_of (field fields place)) (error.Number place)

-- the number below 2^32 that field `place` spells
unfoldable pub small_number_at : List (List ℕ) → ℕ → Result ℕ RowError
small_number_at fields place = do
  n ← number_at fields place
  if nat_lt n (2 ^ 32) then Ok n else Err (error.Number place)

-- the setup priority, 0 to 7, that field `place` spells; a number from 8 to 2^32 - 1 is refused as
-- `Priority`
unfoldable pub priority_at : List (List ℕ) → ℕ → Result ℕ RowError
priority_at fields place = do
  n ← small_number_at fields place
  if nat_lt n 8 then Ok n else Err error.Priority

-- the number of a flag: 0 for false, and 1 for true
abbrev pub flag_number : Bool → ℕ
flag_number false = 0
flag_number true = 1

-- the flag that field `place` spells; a number other than 0 and 1 is refused as `Number`
unfoldable pub flag_at : List (List ℕ) → ℕ → Result Bool RowError
flag_at fields place = do
  n ← small_number_at fields place
  if nat_lt n 2 then Ok (n == 1) else Err (error.Number place)

-- the address that field `place` spells
unfoldable pub address_at : List (List ℕ) → ℕ → Result ℕ RowError
address_at fields place = ok_or (address_of (field fields place)) (error.Address place)

-- the mask that field `place` spells
unfoldable pub mask_at : List (List ℕ) → ℕ → Result ℕ RowError
mask_at fields place = ok_or (mask_of (field fields place)) (error.Mask place)

-- The hops of an EXPLICIT_ROUTE object, if the argument has the decoded bytes of this object. If
-- the digits weren't decoded, or the bytes spell no hops, this is a fault.
abbrev pub object_hops_of : Result (List ℕ) FromHexError → Result (List Hop) HopsFault
object_hops_of (Ok bytes) = result_map_both (λ hops. hops) fault.Ero (ero_of bytes)
object_hops_of (Err e) = Err fault.Hex

-- the hops of an EXPLICIT_ROUTE object that is written in hexadecimal digits
unfoldable pub hex_hops_of : List ℕ → Result (List Hop) HopsFault
hex_hops_of digits = object_hops_of (decode_of digits)

-- The hops that a text spells. A text that begins with `ero:` is read as an EXPLICIT_ROUTE object,
-- and any other text as a hop list.
unfoldable pub either_hops_of : List ℕ → Result (List Hop) HopsFault
either_hops_of text =
    if starts_with nat_eq text (codes "ero:")
    then hex_hops_of (drop 4 text)
    else result_map_both (λ hops. hops) fault.Text (hops_of text)

-- the hops that field `place` spells
unfoldable pub hops_at : List (List ℕ) → ℕ → Result (List Hop) RowError
hops_at fields place = result_map_both (λ hops. hops) error.Hops (either_hops_of (field fields place))
