-- Laws on reading EXPLICIT_ROUTE objects: which bytes are read as which hops, and how the object of
-- a route is read back.
use Rattle.std.specs.Prelude.{◌≡◌, ℕ, ◌^◌, ◌<◌, ◌≤◌, ◌↔◌, false, List, length, map, Ok}
use Rattle.std.specs.List.{AllByRecursion}
use Rattle.hex.specs.Hex.{IsBytes}
use Rattle.cspf_addr.specs.declared.hop.Hop.{Hop}
use Rattle.cspf_addr.specs.declared.hops.TheConstants.{MOST_HOPS}
use Rattle.cspf_model.specs.declared.link.Link.{Link}
use Rattle.cspf_ero.specs.Objects.{Spells, object_of}
use Rattle.cspf_ero.specs.Reading.{ero_of}

-- bytes are read as hops exactly if they spell these hops
abbrev pub AreObjectsRead : Type 0
AreObjectsRead = (bytes : List ℕ) (hops : List Hop) → IsBytes bytes → (ero_of bytes ≡ Ok hops) ↔ Spells bytes hops

-- a list of bytes spells at most one list of hops, in the sense of `Spells`
abbrev pub SpellsOneHopList : Type 0
SpellsOneHopList = (bytes : List ℕ) (hops other : List Hop) → Spells bytes hops → Spells bytes other → hops ≡ other

-- the hops that the object of a route has: for each link, a strict hop to the link's remote address
abbrev pub hops_along : List Link → List Hop
hops_along links = map (λ link. record { prefix = record { address = link.remote; length = 32 }; loose = false }) links

-- the object of a route of 1 to 7 links is read as the route's hops
abbrev pub AreRoutesReadBack : Type 0
AreRoutesReadBack = (links : List Link) → 1 ≤ length links → length links ≤ MOST_HOPS → AllByRecursion (λ link. link.remote < 2 ^ 32) links
    → ero_of (object_of links) ≡ Ok (hops_along links)
