-- The records that are written for rows. The laws below state that each such record is read as the
-- row for which it was written.
use Rattle.std.specs.Prelude.{◌≡◌, ℕ, Bool, ◌^◌, ◌<◌, ◌≤◌, List, [], ◌∷◌, map, length, slice_index, codes, Ok}
use Rattle.std.specs.Fmt.{decimal}
use Rattle.std.specs.List.{AllByRecursion}
use Rattle.cspf_addr.specs.AddressText.{address_text}
use Rattle.cspf_addr.specs.MaskText.{SpellsMask}
use Rattle.cspf_addr.specs.PrefixParts.{IsPrefix}
use Rattle.cspf_addr.specs.HopLists.{hops_text}
use Rattle.cspf_addr.specs.declared.hops.TheConstants.{MOST_HOPS}
use Rattle.cspf_model.specs.declared.link.Link.{Link}
use Rattle.cspf_model.specs.declared.request.Request.{Request}
use Rattle.cspf_rows.specs.declared.row.Row.TheVariants as row
use Rattle.cspf_rows.specs.FieldValues.{flag_number}
use Rattle.cspf_rows.specs.Rows.{row_of}

-- the addresses and the metric of a link are below 2^32, and its unreserved bandwidths are below
-- 2^64
pub record IsLinkInRange (link : Link) : Type 0 where
  pub from : link.from < 2 ^ 32
  pub local : link.local < 2 ^ 32
  pub to : link.to < 2 ^ 32
  pub remote : link.remote < 2 ^ 32
  pub metric : link.metric < 2 ^ 32
  pub free : (priority : ℕ) → priority < 8 → slice_index link.free priority < 2 ^ 64

-- The id and the bandwidth of a request are below 2^64, and its two addresses are below 2^32. The
-- request has at most `MOST_HOPS` hops, and each hop is a prefix.
pub record IsRequestInRange (request : Request) : Type 0 where
  pub id : request.id < 2 ^ 64
  pub from : request.from < 2 ^ 32
  pub to : request.to < 2 ^ 32
  pub bandwidth : request.bandwidth < 2 ^ 64
  pub few : length request.hops ≤ MOST_HOPS
  pub hops : AllByRecursion (λ hop. IsPrefix hop.prefix) request.hops

-- the record that puts a link; `group` is a text that spells the link's group
abbrev pub put_fields : Link → List ℕ → List (List ℕ)
put_fields link group =
    codes "put" ∷ address_text link.from ∷ address_text link.local ∷ address_text link.to ∷ address_text link.remote ∷ decimal link.metric ∷ group ∷ map decimal link.free

-- the record that removes a link
abbrev pub drop_fields : ℕ → ℕ → List (List ℕ)
drop_fields from local = codes "drop" ∷ address_text from ∷ address_text local ∷ []

-- the record that says whether a router has transit
abbrev pub node_fields : ℕ → Bool → List (List ℕ)
node_fields router transit = codes "node" ∷ address_text router ∷ decimal (flag_number transit) ∷ []

-- the record that ends a batch
abbrev pub end_fields : ℕ → ℕ → List (List ℕ)
end_fields number count = codes "end" ∷ decimal number ∷ decimal count ∷ []

-- the record of a request; each affinity is given by a text that spells it
abbrev pub ask_fields : Request → List ℕ → List ℕ → List ℕ → List (List ℕ)
ask_fields request exclude_any include_any include_all =
    codes "ask" ∷ decimal request.id ∷ address_text request.from ∷ address_text request.to ∷ decimal request.setup ∷ decimal request.bandwidth
    ∷ exclude_any ∷ include_any ∷ include_all ∷ hops_text request.hops ∷ []

abbrev pub ArePutsReadBack : Type 0
ArePutsReadBack = (link : Link) (group : List ℕ) → IsLinkInRange link → SpellsMask group link.group → row_of (put_fields link group) ≡ Ok (row.Put link)

abbrev pub AreDropsReadBack : Type 0
AreDropsReadBack = (from local : ℕ) → from < 2 ^ 32 → local < 2 ^ 32 → row_of (drop_fields from local) ≡ Ok (row.Remove from local)

abbrev pub AreNodesReadBack : Type 0
AreNodesReadBack = (router : ℕ) (transit : Bool) → router < 2 ^ 32 → row_of (node_fields router transit) ≡ Ok (row.Node router transit)

abbrev pub AreEndsReadBack : Type 0
AreEndsReadBack = (number count : ℕ) → number < 2 ^ 32 → count < 2 ^ 32 → row_of (end_fields number count) ≡ Ok (row.End number count)

abbrev pub AreAsksReadBack : Type 0
AreAsksReadBack =
    (request : Request) (exclude_any include_any include_all : List ℕ) → IsRequestInRange request
    → SpellsMask exclude_any request.exclude_any → SpellsMask include_any request.include_any → SpellsMask include_all request.include_all
    → row_of (ask_fields request exclude_any include_any include_all) ≡ Ok (row.Ask request)
