-- How lists of hops are written: at most seven hops, separated by single spaces.
use Rattle.std.specs.Prelude.{◌≡◌, ℕ, ◌+◌, ◌≤◌, ◌==◌, nat_lt, if◌then◌else◌, List, [], ◌∷◌, length, map, Result, Ok, Err}
use Rattle.std.specs.List.{slice_split, join_with_byte, AllByRecursion}
use Rattle.std.specs.Option.{ok_or}
use Rattle.cspf_addr.specs.ResultSteps.{◌>>=◌}
use Rattle.cspf_addr.specs.PrefixParts.{IsPrefix}
use Rattle.cspf_addr.specs.HopText.{hop_of, hop_text}
use Rattle.cspf_addr.specs.declared.hop.Hop.{Hop}
use Rattle.cspf_addr.specs.declared.hops.TheConstants.{MOST_HOPS}
use Rattle.cspf_addr.specs.declared.hop_reader.HopsError.{HopsError}
use Rattle.cspf_addr.specs.declared.hop_reader.HopsError.TheVariants as error

-- the parts into which a text is cut at its spaces; a part may be empty
unfoldable pub parts_of : List ℕ → List (List ℕ)
parts_of text = slice_split (λ byte. byte == 32) text

-- The hops that these parts spell, or the error for the first part that isn't a hop. The parts are
-- numbered from `at` on.
abbrev pub hops_from : ℕ → List (List ℕ) → Result (List Hop) HopsError
hops_from at [] = Ok []
hops_from at (part ∷ parts) = do
  hop ← ok_or (hop_of part) (error.BadHop at)
  hops ← hops_from (at + 1) parts
  Ok (hop ∷ hops)

-- The hops that a text spells. The empty text spells no hops. If there are more than seven parts, the text is
-- refused before a part is read.
unfoldable pub hops_of : List ℕ → Result (List Hop) HopsError
hops_of text =
    if length text == 0
    then Ok []
    else (if nat_lt MOST_HOPS (length (parts_of text))
    then Err error.TooManyHops
    else hops_from 1 (parts_of text))

-- the text of a list of hops
unfoldable pub hops_text : List Hop → List ℕ
hops_text hops = join_with_byte 32 (map hop_text hops)

-- A list of at most seven hops is read back from its text.
abbrev pub AreHopListsReadBack : Type 0
AreHopListsReadBack =
    (hops : List Hop) → length hops ≤ MOST_HOPS → AllByRecursion (λ hop. IsPrefix hop.prefix) hops
    → hops_of (hops_text hops) ≡ Ok hops
