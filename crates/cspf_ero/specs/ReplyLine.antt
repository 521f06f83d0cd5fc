-- The line that answers a request.
use Rattle.std.specs.Prelude.{◌≡◌, ℕ, ◌↔◌, Bool, true, false, IsTrue, List, ◌++◌, length, codes}
use Rattle.std.specs.Fmt.{decimal}
use Rattle.hex.specs.Hex.{encode_lower}
use Rattle.cspf_model.specs.declared.link.Link.{Link}
use Rattle.cspf_model.specs.Best.{Answer, unknown_from, unknown_to, no_route, route}
use Rattle.cspf_model.specs.Walks.{cost_of}
use Rattle.cspf_model.specs.RouteLinks.{VisitsTwice}
use Rattle.cspf_ero.specs.Objects.{object_of}

abbrev pub yes_or_no : Bool → List ℕ
yes_or_no true = codes "yes"
yes_or_no false = codes "no"

-- the text for a route's cost, for its number of links, and for whether it visits a router twice
unfoldable pub measures_text : ℕ → ℕ → Bool → List ℕ
measures_text cost hops again =
    codes "route cost=" ++ decimal cost ++ codes " hops=" ++ decimal hops ++ codes " again=" ++ yes_or_no again ++ codes " ero="

-- the part of a line that describes a route, with the route's object in lower-case hexadecimal
-- digits
pub record IsRouteText (links : List Link) (text : List ℕ) : Type 0 where
  pub again : Bool
  pub twice : IsTrue again ↔ VisitsTwice links
  pub words : text ≡ measures_text (cost_of links) (length links) again ++ encode_lower (object_of links)

-- the part of a line that describes an answer
abbrev pub IsAnswerText : Answer → List ℕ → Type 0
IsAnswerText unknown_from text = text ≡ codes "unknown-from"
IsAnswerText unknown_to text = text ≡ codes "unknown-to"
IsAnswerText no_route text = text ≡ codes "none"
IsAnswerText (route links) text = IsRouteText links text

-- `line` gives the answer `answer` to the request `id` at the version `version` of the database,
-- and ends with a line feed
abbrev pub IsReply : ℕ → ℕ → Answer → List ℕ → Type 0
IsReply id version answer line =
    (text : List ℕ) × IsAnswerText answer text × (line ≡ codes "ask " ++ decimal id ++ codes " v" ++ decimal version ++ codes " " ++ text ++ codes "\n")

-- the same line with the word `word` at its beginning, in place of the word `ask`
abbrev pub IsReplyAs : List ℕ → ℕ → ℕ → Answer → List ℕ → Type 0
IsReplyAs word id version answer line =
    (text : List ℕ) × IsAnswerText answer text × (line ≡ word ++ codes " " ++ decimal id ++ codes " v" ++ decimal version ++ codes " " ++ text ++ codes "\n")

-- there is at most one reply line for a request's id, a version of the database and an answer
abbrev pub HasOneReplyLine : Type 0
HasOneReplyLine = (id version : ℕ) (answer : Answer) (line other : List ℕ) → IsReply id version answer line → IsReply id version answer other → line ≡ other
