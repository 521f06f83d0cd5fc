-- What the reader makes of the bytes of an object: the object's hops, or the first reason to refuse
-- it.
use Rattle.std.specs.Prelude.{ℕ, zero, suc, ◌+◌, ◌%◌, ◌&&◌, ◌==◌, nat_lt, nat_le, if◌then◌else◌, List, [], ◌∷◌, length, drop, slice_index, Result, Ok, Err}
use Rattle.std.specs.Int.{w16, w32, from_be_bytes}
use Rattle.cspf_addr.specs.ResultSteps.{◌>>=◌}
use Rattle.cspf_addr.specs.PrefixParts.{with_first_bits}
use Rattle.cspf_addr.specs.declared.hop.Hop.{Hop}
use Rattle.cspf_addr.specs.declared.hops.TheConstants.{MOST_HOPS}
use Rattle.cspf_ero.specs.declared.ero_error.EroError.{EroError}
use Rattle.cspf_ero.specs.declared.ero_error.EroError.TheVariants as error

-- the value of the length field in an object's header
abbrev pub length_field : List ℕ → ℕ
length_field bytes = from_be_bytes w16 (slice_index bytes 0 ∷ slice_index bytes 1 ∷ [])

-- the address of a subobject
abbrev pub address_in : List ℕ → ℕ
address_in bytes = from_be_bytes w32 (slice_index bytes 2 ∷ slice_index bytes 3 ∷ slice_index bytes 4 ∷ slice_index bytes 5 ∷ [])

-- the hop of the first subobject of `bytes`, which begin at the offset `at` of the object
unfoldable pub hop_at : ℕ → List ℕ → Result Hop EroError
hop_at at bytes =
    if slice_index bytes 0 % 128 == 1
    then (if nat_le 8 (length bytes) && slice_index bytes 1 == 8
    then (if nat_le (slice_index bytes 6) 32
    then Ok (record { prefix = with_first_bits (slice_index bytes 6) (address_in bytes); loose = nat_le 128 (slice_index bytes 0) })
    else Err (error.PrefixLength at))
    else Err (error.Sublength at))
    else Err (error.Unsupported at (slice_index bytes 0 % 128))

-- The hops of the subobjects in these bytes, which begin at the offset `at` of the object. If there
-- are more than `most` subobjects, the result is an error.
abbrev pub subobject_hops : ℕ → ℕ → List ℕ → Result (List Hop) EroError
subobject_hops most at [] = Ok []
subobject_hops zero at (byte ∷ bytes) = Err error.TooManyHops
subobject_hops (suc most) at (byte ∷ bytes) = do
  hop ← hop_at at (byte ∷ bytes)
  hops ← subobject_hops most (at + 8) (drop 8 (byte ∷ bytes))
  Ok (hop ∷ hops)

-- the hops of an object that has `size` bytes and begins with `bytes`
unfoldable pub sized_ero_of : ℕ → List ℕ → Result (List Hop) EroError
sized_ero_of size bytes =
    if nat_lt (length bytes) 4
    then Err error.Short
    else (if length_field bytes == size && size % 4 == 0
    then (if slice_index bytes 2 == 20 && slice_index bytes 3 == 1
    then (if length bytes == 4 then Err error.Empty else subobject_hops MOST_HOPS 4 (drop 4 bytes))
    else Err error.Class)
    else Err error.Length)

-- the hops of an object, or the reason to refuse it
abbrev pub ero_of : List ℕ → Result (List Hop) EroError
ero_of bytes = sized_ero_of (length bytes) bytes
