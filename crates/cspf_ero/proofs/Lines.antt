-- The pieces of which a reply line consists, and the greatest number of its bytes.
use Rattle.std.proofs.Common.{◌≡◌, ℕ, ◌+◌, ◌*◌, ◌^◌, ◌<◌, ◌≤◌, Bool, true, false, List, [], ◌∷◌, ◌++◌, codes, length, append_assoc, length-append, lit≤, arith}
use Rattle.std.proofs.lemmas.Fmt.{length-decimal-le}
use Rattle.std.specs.Fmt.{decimal}
use Rattle.cspf_model.specs.declared.limits.TheConstants.{MOST_ROUTE_LINKS}
use Rattle.cspf_ero.specs.declared.limits.TheConstants.{MOST_LINE_BYTES, MOST_OBJECT_BYTES}
use Rattle.cspf_ero.specs.ReplyLine.{yes_or_no}

regrouped : (word a id b version c d cost e hops f again g : List ℕ)
    → word ++ (a ++ (id ++ (b ++ (version ++ (c ++ (d ++ (cost ++ (e ++ (hops ++ (f ++ (again ++ g)))))))))))
    ≡ word ++ a ++ id ++ b ++ version ++ c ++ (d ++ cost ++ e ++ hops ++ f ++ again ++ g)
regrouped word a id b version c d cost e hops f again g = simp append_assoc

-- the part of a route's line before its object is written piece by piece, and it is the text that
-- `measures_text` defines
pub front_pieces : (word id version cost hops again : List ℕ)
    → word ++ (codes " " ++ (id ++ (codes " v" ++ (version ++ (codes " route cost=" ++ (cost ++ (codes " hops=" ++ (hops ++ (codes " again=" ++ (again ++ codes " ero="))))))))))
    ≡ word ++ codes " " ++ id ++ codes " v" ++ version ++ codes " " ++ (codes "route cost=" ++ cost ++ codes " hops=" ++ hops ++ codes " again=" ++ again ++ codes " ero=")
front_pieces word id version cost hops again =
    regrouped word (codes " ") id (codes " v") version (codes " ") (codes "route cost=") cost (codes " hops=") hops (codes " again=") again (codes " ero=")

-- a line is the same text, whether its pieces are joined from the right, or `words` and `digits`
-- are joined first
pub line_pieces : (front words digits feed : List ℕ) → front ++ words ++ digits ++ feed ≡ front ++ (words ++ digits) ++ feed
line_pieces front words digits feed = simp append_assoc

-- an id has at most 20 digits; the next three lemmas bound the digits of a version, of a cost and
-- of a number of links
pub id_digits : (id : ℕ) → id < 2 ^ 64 → length (decimal id) ≤ 20
id_digits id small = length-decimal-le 20 id (omega arith) (omega arith) small

pub version_digits : (version : ℕ) → version < 2 ^ 32 → length (decimal version) ≤ 10
version_digits version small = length-decimal-le 10 version (omega arith) (omega arith) (omega arith)

pub cost_digits : (cost : ℕ) → cost < 2 ^ 45 → length (decimal cost) ≤ 14
cost_digits cost small = length-decimal-le 14 cost (omega arith) (omega arith) (omega arith)

pub hops_digits : (hops : ℕ) → hops ≤ MOST_ROUTE_LINKS → length (decimal hops) ≤ 4
hops_digits hops small = length-decimal-le 4 hops (omega arith) (omega arith) (omega arith)

pub again_letters : (again : Bool) → length (yes_or_no again) ≤ 3
again_letters true = lit≤ tt
again_letters false = lit≤ tt

-- a line has at most 84 bytes between its first word and its object
pub front_most : (word id version cost hops again : List ℕ) → length id ≤ 20 → length version ≤ 10 → length cost ≤ 14 → length hops ≤ 4 → length again ≤ 3
    → length (word ++ (codes " " ++ (id ++ (codes " v" ++ (version ++ (codes " route cost=" ++ (cost ++ (codes " hops=" ++ (hops ++ (codes " again=" ++ (again ++ codes " ero="))))))))))) ≤ 84 + length word
front_most word id version cost hops again a b c d e = simp length-append (omega arith)

-- a line without a route has at most 47 bytes after its first word
pub short_most : (word id version words : List ℕ) → length id ≤ 20 → length version ≤ 10 → length words ≤ 12
    → length (word ++ (codes " " ++ (id ++ (codes " v" ++ (version ++ (codes " " ++ (words ++ codes "\n"))))))) ≤ 47 + length word
short_most word id version words a b c = simp length-append (omega arith)

-- a line with an object has at most `MOST_LINE_BYTES` bytes if its first word has three
pub line_most : (word front digits object : List ℕ) → length front ≤ 84 + length word → length object ≤ MOST_OBJECT_BYTES → length digits ≡ 2 * length object
    → length (front ++ digits ++ 10 ∷ []) + 3 ≤ MOST_LINE_BYTES + length word
line_most word front digits object a b c = simp length-append (omega arith)
