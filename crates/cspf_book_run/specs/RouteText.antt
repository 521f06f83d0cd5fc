-- The route field of a `held` row: 16 hexadecimal digits for each link.
use Rattle.std.specs.Prelude.{◌≡◌, ℕ, ◌^◌, ◌%◌, ◌<◌, ◌≤◌, ◌==◌, ◌&&◌, Bool, nat_lt, if◌then◌else◌, List, [], ◌∷◌, ◌++◌, length, map, Option, Some, None, Result, Ok, Err}
use Rattle.std.specs.Int.{w32, to_be_bytes, from_be_bytes}
use Rattle.std.specs.List.{flat_map, AllByRecursion}
use Rattle.hex.specs.Hex.{decode_of, encode_lower}
use Rattle.hex.specs.declared.error.FromHexError.{FromHexError}
use Rattle.cspf_book.specs.declared.path.Passed.{Passed}
use Rattle.cspf_book.specs.PathsFrom.{passed_step}

-- The steps of a route whose links have 8 bytes each. The first 4 bytes are the address of the
-- link's interface, and the others are the router that the link leads to, both in network order.
abbrev pub steps_in : List ℕ → List (ℕ × ℕ)
steps_in (a ∷ b ∷ c ∷ d ∷ e ∷ f ∷ g ∷ h ∷ more) =
    (from_be_bytes w32 (a ∷ b ∷ c ∷ d ∷ []), from_be_bytes w32 (e ∷ f ∷ g ∷ h ∷ [])) ∷ steps_in more
steps_in fewer = []

-- There are 8 bytes for each link, and there is a link.
abbrev pub are_links : List ℕ → Bool
are_links bytes = nat_lt 0 (length bytes) && length bytes % 8 == 0

-- the steps that decoded bytes give, if the digits were decoded and are those of links
abbrev pub steps_decoded : Result (List ℕ) FromHexError → Option (List (ℕ × ℕ))
steps_decoded (Ok bytes) = if are_links bytes then Some (steps_in bytes) else None
steps_decoded (Err e) = None

-- The steps of the route that a text spells: for each link, the address of its interface and the
-- router that it leads to. The text has 16 hexadecimal digits of either case for each link. A route
-- has a link.
unfoldable pub steps_of : List ℕ → Option (List (ℕ × ℕ))
steps_of text = steps_decoded (decode_of text)

-- the 8 bytes of a link: the address of its interface, and the router that it leads to
abbrev pub link_bytes : Passed → List ℕ
link_bytes l = to_be_bytes w32 l.local ++ to_be_bytes w32 l.to

-- the text of a route: 16 lower-case hexadecimal digits for each link
unfoldable pub route_text_of : List Passed → List ℕ
route_text_of path = encode_lower (flat_map link_bytes path)

-- the addresses of a link on a path are below 2^32
pub record IsPassedInRange (l : Passed) : Type 0 where
  pub from : l.from < 2 ^ 32
  pub local : l.local < 2 ^ 32
  pub to : l.to < 2 ^ 32

-- The text of a route is read as the route's steps.
abbrev pub AreRouteTextsReadBack : Type 0
AreRouteTextsReadBack =
    (path : List Passed) → 1 ≤ length path → AllByRecursion IsPassedInRange path
    → steps_of (route_text_of path) ≡ Some (map passed_step path)
