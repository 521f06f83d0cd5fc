-- The object of a route of 1 to 7 links is read as the route's hops.
use Rattle.std.proofs.Common.{ℕ, ◌+◌, ◌*◌, ◌^◌, ◌<◌, ◌≤◌, List, [], ◌∷◌, ◌++◌, length, refl, sym, ap, ◌∙◌, lit≤, arith}
use Rattle.std.proofs.lemmas.List.{length-map}
use Rattle.std.specs.List.{flat_map, AllByRecursion}
use Rattle.cspf_addr.specs.PrefixParts.{IsPrefix}
use Rattle.cspf_model.specs.declared.link.Link.{Link}
use Rattle.cspf_ero.specs.Objects.{header, subobject_of, SpellsEach, Spells, object_of}
use Rattle.cspf_ero.specs.Laws.{hops_along, AreRoutesReadBack}
use Rattle.cspf_ero.proofs.Writing.{length-object_of}
use Rattle.cspf_ero.proofs.Spelling.{spelled_ero}

-- an address with the prefix length 32 is a prefix
whole_prefix : (address : ℕ) → address < 2 ^ 32 → IsPrefix (record { address = address; length = 32 })
whole_prefix address small = record { most = lit≤ tt; small = small; zeros = omega arith }

-- the subobjects of links spell, for each link, a strict hop to its remote address
spelled_links : (links : List Link) → AllByRecursion (λ link. link.remote < 2 ^ 32) links → SpellsEach (flat_map subobject_of links) (hops_along links)
spelled_links [] small = refl
spelled_links (link ∷ links) (here, more) = (
  subobject_of link,
  flat_map subobject_of links,
  refl,
  record { address = link.remote; padding = 0; whole = refl; small = here; prefix = whole_prefix link.remote here; agrees = refl },
  spelled_links links more,
)

-- the object of a route of 1 to 7 links spells the route's hops
pub spelled_route : (links : List Link) → 1 ≤ length links → length links ≤ 7 → AllByRecursion (λ link. link.remote < 2 ^ 32) links → Spells (object_of links) (hops_along links)
unfolding object_of
spelled_route links some most small = record {
  some = rw length-map some;
  most = rw length-map most;
  size = length-object_of links ∙ ap (λ n. 4 + 8 * n) (sym (length-map links _));
  body = flat_map subobject_of links;
  whole = ap (λ size. header size ++ flat_map subobject_of links) (sym (length-object_of links));
  each = spelled_links links small;
}

pub routes_read_back : AreRoutesReadBack
routes_read_back links some most small = spelled_ero (object_of links) (hops_along links) (spelled_route links some most small)
