-- The length of the object that is written for a route.
use Rattle.std.proofs.Common.{◌≡◌, ◌+◌, ◌*◌, ◌≤◌, List, [], ◌∷◌, length, take, refl, sym, ◌∙◌, arith, length-append}
use Rattle.std.proofs.lemmas.Nat.{from_be_bytes-to_be_bytes_2}
use Rattle.std.specs.Int.{w16, from_be_bytes}
use Rattle.std.specs.List.{flat_map}
use Rattle.cspf_model.specs.declared.link.Link.{Link}
use Rattle.cspf_model.specs.declared.limits.TheConstants.{MOST_ROUTE_LINKS}
use Rattle.cspf_ero.specs.Objects.{object_of, header, subobject_of}

-- the subobjects of links have 8 bytes for each link
length-subobjects : (links : List Link) → length (flat_map subobject_of links) ≡ 8 * length links
length-subobjects [] = refl
length-subobjects (link ∷ links) = omega (arith, length-append (subobject_of link) (flat_map subobject_of links), length-subobjects links)

pub length-object_of : (links : List Link) → length (object_of links) ≡ 4 + 8 * length links
unfolding object_of
length-object_of links = omega (arith, length-append (header (4 + 8 * length links)) (flat_map subobject_of links), length-subobjects links)

-- the length field of the object is its length in bytes
pub field-object_of : (links : List Link) → length links ≤ MOST_ROUTE_LINKS → from_be_bytes w16 (take 2 (object_of links)) ≡ length (object_of links)
unfolding object_of
field-object_of links most =
    from_be_bytes-to_be_bytes_2 (4 + 8 * length links) (omega arith) ∙ sym (length-object_of links)
