-- How hops are written: the hop's prefix, and then `s` for a strict hop or `l` for a loose hop.
use Rattle.std.specs.Prelude.{◌≡◌, ℕ, ◌-◌, Bool, true, false, ◌==◌, if◌then◌else◌, List, [], ◌∷◌, ◌++◌, length, take, slice_index, Option, Some, None, ◌↔◌, Ok}
use Rattle.std.specs.Result.{result_ok}
use Rattle.cspf_addr.specs.OptionSteps.{◌>>=◌}
use Rattle.cspf_addr.specs.PrefixParts.{IsPrefix}
use Rattle.cspf_addr.specs.Prefixes.{prefix_of, prefix_text}
use Rattle.cspf_addr.specs.declared.hop.Hop.{Hop}

-- the letter of a hop: `l` if it is loose, and `s` if it is strict
abbrev pub hop_letter : Bool → ℕ
hop_letter loose = if loose then 108 else 115

-- true for the letter of a loose hop, false for the letter of a strict hop, and otherwise `None`
unfoldable pub loose_of : ℕ → Option Bool
loose_of letter = if letter == 108 then Some true else (if letter == 115 then Some false else None)

-- the hop that a text spells
unfoldable pub hop_of : List ℕ → Option Hop
hop_of text = do
  prefix ← result_ok (prefix_of (take (length text - 1) text))
  loose ← loose_of (slice_index text (length text - 1))
  Some (record { prefix = prefix; loose = loose })

-- the text of a hop
unfoldable pub hop_text : Hop → List ℕ
hop_text hop = prefix_text hop.prefix ++ (hop_letter hop.loose ∷ [])

-- The text consists of a text that spells the prefix of the hop, and the letter of the hop.
pub record IsHopText (text : List ℕ) (hop : Hop) : Type 0 where
  pub front : List ℕ
  pub whole : text ≡ front ++ (hop_letter hop.loose ∷ [])
  pub prefix : prefix_of front ≡ Ok hop.prefix

-- A text is read as the hop `hop` exactly if it is a text of this hop.
abbrev pub AreHopTextsRead : Type 0
AreHopTextsRead = (text : List ℕ) (hop : Hop) → (hop_of text ≡ Some hop) ↔ IsHopText text hop

-- A hop is read back from its text.
abbrev pub AreHopsReadBack : Type 0
AreHopsReadBack = (hop : Hop) → IsPrefix hop.prefix → hop_of (hop_text hop) ≡ Some hop
