-- The line that answers a request for a pair.
use Rattle.std.specs.Prelude.{ℕ, ◌+◌, List, ◌++◌, length, codes}
use Rattle.std.specs.Fmt.{decimal}
use Rattle.hex.specs.Hex.{encode_lower}
use Rattle.cspf_addr.specs.AddressText.{address_text}
use Rattle.cspf_model.specs.declared.link.Link.{Link}
use Rattle.cspf_model.specs.Walks.{cost_of}
use Rattle.cspf_ero.specs.Objects.{object_of}
use Rattle.cspf_pair.specs.Answers.{PairAnswer, unknown_from, unknown_to, no_way, each_by, each_through, pair}

-- the part of a line that describes the way with this number: its cost, and its object in lower-case
-- hexadecimal digits
abbrev pub way_text : List ℕ → List Link → List ℕ
way_text number links =
    codes " cost" ++ number ++ codes "=" ++ decimal (cost_of links) ++ codes " ero" ++ number ++ codes "=" ++ encode_lower (object_of links)

-- the part of a line that describes a pair: the total cost, the total number of links, and each way
abbrev pub ways_text : List Link → List Link → List ℕ
ways_text one other =
    codes "pair cost=" ++ decimal (cost_of one + cost_of other) ++ codes " hops=" ++ decimal (length one + length other)
    ++ way_text (codes "1") one ++ way_text (codes "2") other

-- the part of a line that describes an answer
abbrev pub pair_text : PairAnswer → List ℕ
pair_text unknown_from = codes "unknown-from"
pair_text unknown_to = codes "unknown-to"
pair_text no_way = codes "none"
pair_text (each_by l) = codes "each by " ++ address_text l.from ++ codes "," ++ address_text l.local
pair_text (each_through router) = codes "each through " ++ address_text router
pair_text (pair one other) = ways_text one other

-- the line that gives the answer to the request `id` at the version `version` of the database, with
-- a line feed at its end
abbrev pub pair_reply_line : ℕ → ℕ → PairAnswer → List ℕ
pair_reply_line id version answer = codes "pair " ++ decimal id ++ codes " v" ++ decimal version ++ codes " " ++ pair_text answer ++ codes "\n"
