-- The `held` rows that are written for placements. A row has all that a book keeps of its placement.
use Rattle.std.specs.Prelude.{◌≡◌, ℕ, ◌^◌, ◌<◌, List, [], ◌∷◌, codes, map, Ok}
use Rattle.std.specs.Fmt.{decimal}
use Rattle.std.specs.List.{flat_map, AllByRecursion}
use Rattle.csv.specs.Writing.{default_writer, row_text}
use Rattle.cspf_addr.specs.AddressText.{address_text}
use Rattle.cspf_addr.specs.HopLists.{hops_text}
use Rattle.cspf_addr.specs.MaskText.{mask_text}
use Rattle.cspf_model.specs.declared.request.Request.{Request}
use Rattle.cspf_rows.specs.Records.{rows_of}
use Rattle.cspf_rows.specs.Written.{IsRequestInRange}
use Rattle.cspf_book.specs.declared.placement.Placement.{Placement}
use Rattle.cspf_book.specs.PathsFrom.{LeadFromTo}
use Rattle.cspf_book_run.specs.BookRows.{book_row_of}
use Rattle.cspf_book_run.specs.RouteText.{route_text_of, IsPassedInRange}
use Rattle.cspf_book_run.specs.declared.book_row.BookRow.TheVariants as book_row

-- the fields of a `held` row up to the bandwidth
abbrev pub placing_fields : Request → ℕ → List (List ℕ)
placing_fields q hold =
    codes "held" ∷ decimal q.id ∷ address_text q.from ∷ address_text q.to ∷ decimal hold ∷ decimal q.bandwidth ∷ []

-- the fields of a `held` row after the bandwidth and before the route
abbrev pub constraint_fields : Request → List (List ℕ)
constraint_fields q = mask_text q.exclude_any ∷ mask_text q.include_any ∷ mask_text q.include_all ∷ hops_text q.hops ∷ []

-- The fields of the `held` row of a placement. The priority is the holding priority. The affinities
-- are written as `0x` and eight hexadecimal digits each.
abbrev pub held_fields : Placement → List (List ℕ)
held_fields p =
    codes "held" ∷ decimal p.request.id ∷ address_text p.request.from ∷ address_text p.request.to ∷ decimal p.hold ∷ decimal p.request.bandwidth
    ∷ mask_text p.request.exclude_any ∷ mask_text p.request.include_any ∷ mask_text p.request.include_all ∷ hops_text p.request.hops
    ∷ route_text_of p.route ∷ []

-- the text of the `held` row of a placement
abbrev pub held_text : Placement → List ℕ
held_text p = row_text default_writer (held_fields p)

-- The affinities of a request are below 2^32.
pub record AreMasksInRange (q : Request) : Type 0 where
  pub exclude_any : q.exclude_any < 2 ^ 32
  pub include_any : q.include_any < 2 ^ 32
  pub include_all : q.include_all < 2 ^ 32

-- The numbers of the request and of its affinities are in their ranges, and so are the addresses of
-- the route.
pub record IsPlacementInRange (p : Placement) : Type 0 where
  pub request : IsRequestInRange p.request
  pub masks : AreMasksInRange p.request
  pub route : AllByRecursion IsPassedInRange p.route

-- A placement whose request was read from a row: the setup priority is 7. The route leads from the
-- head-end to the tail-end.
pub record IsWritable (p : Placement) : Type 0 where
  pub range : IsPlacementInRange p
  pub setup : p.request.setup ≡ 7
  pub ends : LeadFromTo p.request.from p.request.to p.route

-- The `held` row of a placement is read as this placement.
abbrev pub AreHeldRowsReadBack : Type 0
AreHeldRowsReadBack =
    (p : Placement) → IsWritable p → book_row_of (held_fields p) ≡ Ok (book_row.Held p)

-- The texts of `held` rows, one after the other, are cut into exactly the records of these rows.
abbrev pub AreHeldTextsCut : Type 0
AreHeldTextsCut = (ps : List Placement) → rows_of (flat_map held_text ps) ≡ map held_fields ps
