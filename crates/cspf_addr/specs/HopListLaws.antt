-- Which texts are read as lists of hops, and why other texts are refused.
use Rattle.std.specs.Prelude.{◌≡◌, ◌≢◌, ℕ, ◌+◌, ◌<◌, ◌≤◌, ◌↔◌, List, [], ◌∷◌, ◌++◌, length, Ok, Err}
use Rattle.std.specs.List.{join_with_byte, AllByRecursion}
use Rattle.cspf_addr.specs.HopText.{IsHopText}
use Rattle.cspf_addr.specs.HopLists.{hops_of}
use Rattle.cspf_addr.specs.declared.hop.Hop.{Hop}
use Rattle.cspf_addr.specs.declared.hops.TheConstants.{MOST_HOPS}
use Rattle.cspf_addr.specs.declared.hop_reader.HopsError.TheVariants as error

-- There are as many texts as hops, and each text spells the hop at the same index.
abbrev pub AreHopTexts : List (List ℕ) → List Hop → Type 0
AreHopTexts [] [] = Unit {0}
AreHopTexts (text ∷ texts) (hop ∷ hops) = IsHopText text hop × AreHopTexts texts hops
AreHopTexts [] (hop ∷ hops) = ⊥
AreHopTexts (text ∷ texts) [] = ⊥

-- The text consists of the texts of these hops, separated by single spaces. There are at most seven
-- hops.
pub record IsHopListText (text : List ℕ) (hops : List Hop) : Type 0 where
  pub parts : List (List ℕ)
  pub whole : text ≡ join_with_byte 32 parts
  pub each : AreHopTexts parts hops
  pub most : length hops ≤ MOST_HOPS

-- The text consists of these parts, separated by single spaces, and no part has a space.
pub record AreParts (text : List ℕ) (parts : List (List ℕ)) : Type 0 where
  pub whole : text ≡ join_with_byte 32 parts
  pub without_space : AllByRecursion (λ part. AllByRecursion (λ byte. byte ≢ 32) part) parts

-- `place` is the number of the first part that isn't the text of a hop. Parts are numbered from 1.
pub record IsFirstNoHop (parts : List (List ℕ)) (place : ℕ) : Type 0 where
  pub front : List (List ℕ)
  pub part : List ℕ
  pub behind : List (List ℕ)
  pub whole : parts ≡ front ++ part ∷ behind
  pub is_place : place ≡ length front + 1
  pub hops : List Hop
  pub before : AreHopTexts front hops
  pub here : (hop : Hop) → ¬ IsHopText part hop

-- The text isn't empty, and has at most seven parts. The first part that isn't a hop has the number
-- `place`.
pub record HasBadHop (text : List ℕ) (place : ℕ) : Type 0 where
  pub some : text ≢ []
  pub parts : List (List ℕ)
  pub are_parts : AreParts text parts
  pub most : length parts ≤ MOST_HOPS
  pub bad : IsFirstNoHop parts place

-- The text has more than seven parts.
pub record HasTooManyParts (text : List ℕ) : Type 0 where
  pub parts : List (List ℕ)
  pub are_parts : AreParts text parts
  pub many : MOST_HOPS < length parts

-- A text is read as the list `hops` exactly if it is a text of this list.
abbrev pub AreHopListsRead : Type 0
AreHopListsRead =
    (text : List ℕ) (hops : List Hop) → (hops_of text ≡ Ok hops) ↔ IsHopListText text hops

-- A text is refused as `BadHop place` exactly if `HasBadHop` holds of the text and `place`.
abbrev pub AreBadHopsNamed : Type 0
AreBadHopsNamed =
    (text : List ℕ) (place : ℕ) → (hops_of text ≡ Err (error.BadHop place)) ↔ HasBadHop text place

-- A text is refused as `TooManyHops` exactly if it has more than seven parts.
abbrev pub AreTooManyRefused : Type 0
AreTooManyRefused =
    (text : List ℕ) → (hops_of text ≡ Err error.TooManyHops) ↔ HasTooManyParts text
