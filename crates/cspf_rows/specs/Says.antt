-- Which fields a record must have in order to say a given row.
use Rattle.std.specs.Prelude.{◌≡◌, ◌≢◌, ℕ, Bool, ◌^◌, ◌<◌, ◌↔◌, ◌⊎◌, List, ◌++◌, length, slice_index, codes, Ok}
use Rattle.std.specs.Fmt.{decimal}
use Rattle.cspf_addr.specs.AddressText.{address_text}
use Rattle.cspf_addr.specs.MaskText.{SpellsMask}
use Rattle.cspf_addr.specs.HopLists.{hops_of}
use Rattle.cspf_addr.specs.declared.hop.Hop.{Hop}
use Rattle.cspf_model.specs.declared.link.Link.{Link}
use Rattle.cspf_model.specs.declared.request.Request.{Request}
use Rattle.hex.specs.Hex.{decode_of}
use Rattle.cspf_ero.specs.Objects.{Spells}
use Rattle.cspf_rows.specs.declared.row.Row.{Row}
use Rattle.cspf_rows.specs.declared.row.Row.TheVariants as row
use Rattle.cspf_rows.specs.FieldValues.{field, flag_number}
use Rattle.cspf_rows.specs.Rows.{row_of}

-- the number `n` is below `bound`, and the text is the decimal text of `n`
pub record SpellsNumber (bound : ℕ) (text : List ℕ) (n : ℕ) : Type 0 where
  pub small : n < bound
  pub written : text ≡ decimal n

-- the text is the text of a flag: `0` for false, and `1` for true
abbrev pub SpellsFlag : List ℕ → Bool → Type 0
SpellsFlag text flag = text ≡ decimal (flag_number flag)

-- the text is the dotted text of the address `n`
pub record SpellsAddress (text : List ℕ) (n : ℕ) : Type 0 where
  pub small : n < 2 ^ 32
  pub written : text ≡ address_text n

-- the text is a hop list of these hops; the text doesn't begin with `ero:`
pub record SpellsHopList (text : List ℕ) (hops : List Hop) : Type 0 where
  pub other : (rest : List ℕ) → text ≢ codes "ero:" ++ rest
  pub read : hops_of text ≡ Ok hops

-- The text is `ero:` followed by hexadecimal digits of either case. These digits decode to an
-- EXPLICIT_ROUTE object that spells the hops.
pub record SpellsObject (text : List ℕ) (hops : List Hop) : Type 0 where
  pub digits : List ℕ
  pub bytes : List ℕ
  pub whole : text ≡ codes "ero:" ++ digits
  pub decoded : decode_of digits ≡ Ok bytes
  pub spelled : Spells bytes hops

-- the text spells the hops as a hop list or as an EXPLICIT_ROUTE object
abbrev pub SpellsHops : List ℕ → List Hop → Type 0
SpellsHops text hops = SpellsHopList text hops ⊎ SpellsObject text hops

-- The fields of a `put` row: the word `put`, the router, the local address, the neighbor, the
-- remote address, the metric and the group. The unreserved bandwidths at the priorities 0 to 7
-- follow.
pub record SaysPut (fields : List (List ℕ)) (link : Link) : Type 0 where
  pub count : length fields ≡ 15
  pub kind : field fields 1 ≡ codes "put"
  pub from : SpellsAddress (field fields 2) link.from
  pub local : SpellsAddress (field fields 3) link.local
  pub to : SpellsAddress (field fields 4) link.to
  pub remote : SpellsAddress (field fields 5) link.remote
  pub metric : SpellsNumber (2 ^ 32) (field fields 6) link.metric
  pub group : SpellsMask (field fields 7) link.group
  pub free_0 : SpellsNumber (2 ^ 64) (field fields 8) (slice_index link.free 0)
  pub free_1 : SpellsNumber (2 ^ 64) (field fields 9) (slice_index link.free 1)
  pub free_2 : SpellsNumber (2 ^ 64) (field fields 10) (slice_index link.free 2)
  pub free_3 : SpellsNumber (2 ^ 64) (field fields 11) (slice_index link.free 3)
  pub free_4 : SpellsNumber (2 ^ 64) (field fields 12) (slice_index link.free 4)
  pub free_5 : SpellsNumber (2 ^ 64) (field fields 13) (slice_index link.free 5)
  pub free_6 : SpellsNumber (2 ^ 64) (field fields 14) (slice_index link.free 6)
  pub free_7 : SpellsNumber (2 ^ 64) (field fields 15) (slice_index link.free 7)

-- The fields of a `drop` row: the word `drop`, the router, and the local address. Router and local
-- address are the key of the link to remove.
pub record SaysRemove (fields : List (List ℕ)) (router address : ℕ) : Type 0 where
  pub count : length fields ≡ 3
  pub kind : field fields 1 ≡ codes "drop"
  pub from : SpellsAddress (field fields 2) router
  pub local : SpellsAddress (field fields 3) address

-- the fields of a `node` row: the word `node`, the router, and whether it has transit
pub record SaysNode (fields : List (List ℕ)) (address : ℕ) (flag : Bool) : Type 0 where
  pub count : length fields ≡ 3
  pub kind : field fields 1 ≡ codes "node"
  pub router : SpellsAddress (field fields 2) address
  pub transit : SpellsFlag (field fields 3) flag

-- the fields of an `end` row: the word `end`, the number of the batch, and the count of its changes
pub record SaysEnd (fields : List (List ℕ)) (version changes : ℕ) : Type 0 where
  pub count : length fields ≡ 3
  pub kind : field fields 1 ≡ codes "end"
  pub number : SpellsNumber (2 ^ 32) (field fields 2) version
  pub has : SpellsNumber (2 ^ 32) (field fields 3) changes

-- The fields of an `ask` row: the word `ask`, the id, the head-end, the tail-end, the setup
-- priority, the bandwidth, the three affinities, and the hops. The same hops may be spelled in more
-- than one way.
pub record SaysAsk (fields : List (List ℕ)) (request : Request) : Type 0 where
  pub count : length fields ≡ 10
  pub kind : field fields 1 ≡ codes "ask"
  pub id : SpellsNumber (2 ^ 64) (field fields 2) request.id
  pub from : SpellsAddress (field fields 3) request.from
  pub to : SpellsAddress (field fields 4) request.to
  pub setup : SpellsNumber 8 (field fields 5) request.setup
  pub bandwidth : SpellsNumber (2 ^ 64) (field fields 6) request.bandwidth
  pub exclude_any : SpellsMask (field fields 7) request.exclude_any
  pub include_any : SpellsMask (field fields 8) request.include_any
  pub include_all : SpellsMask (field fields 9) request.include_all
  pub hops : SpellsHops (field fields 10) request.hops

-- the record says this row
abbrev pub Says : List (List ℕ) → Row → Type 0
Says fields (row.Put link) = SaysPut fields link
Says fields (row.Remove from local) = SaysRemove fields from local
Says fields (row.Node router transit) = SaysNode fields router transit
Says fields (row.End number count) = SaysEnd fields number count
Says fields (row.Ask request) = SaysAsk fields request

-- a record is read as a row exactly if it says that row
abbrev pub AreRowsRead : Type 0
AreRowsRead = (fields : List (List ℕ)) (row : Row) → (row_of fields ≡ Ok row) ↔ Says fields row

-- a record says at most one row
abbrev pub SaysOneRow : Type 0
SaysOneRow = (fields : List (List ℕ)) (row other : Row) → Says fields row → Says fields other → row ≡ other
