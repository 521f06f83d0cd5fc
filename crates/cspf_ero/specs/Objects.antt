-- EXPLICIT_ROUTE objects (RFC 2205 3.1.2, RFC 3209 4.3): the bytes that spell hops, and the object
-- of a route.
use Rattle.std.specs.Prelude.{◌≡◌, ℕ, ◌+◌, ◌*◌, ◌^◌, ◌<◌, ◌≤◌, Bool, false, if◌then◌else◌, List, [], ◌∷◌, ◌++◌, length}
use Rattle.std.specs.Int.{w16, w32, to_be_bytes}
use Rattle.std.specs.List.{flat_map}
use Rattle.cspf_addr.specs.PrefixParts.{IsPrefix}
use Rattle.cspf_addr.specs.Prefixes.{Covers}
use Rattle.cspf_addr.specs.declared.hop.Hop.{Hop}
use Rattle.cspf_addr.specs.declared.hops.TheConstants.{MOST_HOPS}
use Rattle.cspf_model.specs.declared.link.Link.{Link}

-- the header of an object: its length in bytes, the class 20 and the C-Type 1
abbrev pub header : ℕ → List ℕ
header size = to_be_bytes w16 size ++ 20 ∷ 1 ∷ []

-- the first byte of a subobject: the type 1 of an IPv4 prefix, and the highest bit L, which is 1
-- for a loose hop
abbrev pub type_byte : Bool → ℕ
type_byte loose = if loose then 129 else 1

-- a subobject: the type byte, the length 8, an address, a prefix length, and a byte of padding
abbrev pub subobject : Bool → ℕ → ℕ → ℕ → List ℕ
subobject loose address bits padding = type_byte loose ∷ 8 ∷ to_be_bytes w32 address ++ bits ∷ padding ∷ []

-- A subobject spells a hop if it has the hop's bit L and prefix length, and an address that the
-- hop's prefix covers. The bits of the address after the prefix length, and the padding, may be
-- anything.
pub record SpellsHop (bytes : List ℕ) (hop : Hop) : Type 0 where
  pub address : ℕ
  pub padding : ℕ
  pub whole : bytes ≡ subobject hop.loose address hop.prefix.length padding
  pub small : address < 2 ^ 32
  pub prefix : IsPrefix hop.prefix
  pub agrees : Covers hop.prefix address

-- the bytes are subobjects that spell these hops, one subobject for each hop, in the order of the
-- hops
abbrev pub SpellsEach : List ℕ → List Hop → Type 0
SpellsEach bytes [] = bytes ≡ []
SpellsEach bytes (hop ∷ hops) = (front : List ℕ) × (back : List ℕ) × (bytes ≡ front ++ back) × SpellsHop front hop × SpellsEach back hops

-- the bytes are an object that spells these 1 to 7 hops
pub record Spells (bytes : List ℕ) (hops : List Hop) : Type 0 where
  pub some : 1 ≤ length hops
  pub most : length hops ≤ MOST_HOPS
  pub size : length bytes ≡ 4 + 8 * length hops
  pub body : List ℕ
  pub whole : bytes ≡ header (length bytes) ++ body
  pub each : SpellsEach body hops

-- the subobject of a link: a strict hop to the link's remote address
abbrev pub subobject_of : Link → List ℕ
subobject_of link = subobject false link.remote 32 0

-- the object of a route: the header, and one subobject for each link
unfoldable pub object_of : List Link → List ℕ
object_of links = header (4 + 8 * length links) ++ flat_map subobject_of links
