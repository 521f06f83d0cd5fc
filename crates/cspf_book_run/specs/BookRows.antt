-- How a book reads a record as a row, or the first reason why it refuses the record.
use Rattle.std.specs.Prelude.{◌==◌, if◌then◌else◌, ℕ, List, [], ◌∷◌, length, codes, Option, Some, None, Result, Ok, Err}
use Rattle.std.specs.Result.{result_map_both}
use Rattle.std.proofs.Common.{lit<}
use Rattle.cspf_addr.specs.ResultSteps.{◌>>=◌}
use Rattle.cspf_model.specs.Fields.{request_fields}
use Rattle.cspf_model.specs.declared.request.Request.{Request}
use Rattle.cspf_rows.specs.FieldValues.{address_at, field, number_at}
use Rattle.cspf_rows.specs.Rows.{ask_row_of, is_kind, request_with, row_of}
use Rattle.cspf_rows.specs.declared.row.Row.{Row}
use Rattle.cspf_rows.specs.declared.row.Row.TheVariants as row
use Rattle.cspf_rows.specs.declared.row_error.RowError.{RowError}
use Rattle.cspf_rows.specs.declared.row_error.RowError.TheVariants as error
use Rattle.cspf_book.specs.declared.path.Passed.{Passed}
use Rattle.cspf_book.specs.declared.placement.Placement.{Placement}
use Rattle.cspf_book.specs.PathsFrom.{path_from}
use Rattle.cspf_book_run.specs.RouteText.{steps_of}
use Rattle.cspf_book_run.specs.declared.book_row.BookRow.{BookRow}
use Rattle.cspf_book_run.specs.declared.book_row.BookRow.TheVariants as book_row
use Rattle.cspf_book_run.specs.declared.book_row_error.BookRowError.{BookRowError}
use Rattle.cspf_book_run.specs.declared.book_row_error.BookRowError.TheVariants as refused

-- the same request with the setup priority 7
abbrev pub at_lowest_setup : Request → Request
at_lowest_setup q = request_with (request_fields q.id q.from q.to 7 q.bandwidth q.exclude_any q.include_any q.include_all q.hops) (lit< tt) q.two_ends

-- The request and the holding priority of a row whose fields were read as those of an `ask` row. The
-- priority that was read as the setup priority is the holding priority. The setup priority is 7.
abbrev pub held_as_asked : Result Row RowError → Result (Request × ℕ) RowError
held_as_asked (Err e) = Err e
held_as_asked (Ok (row.Ask q)) = Ok (at_lowest_setup q, q.setup)
held_as_asked (Ok other) = Err error.Kind

-- The request and the holding priority of a record that has `count` fields. After the first field,
-- the record has the fields of an `ask` row.
abbrev pub held_request_of : ℕ → List (List ℕ) → Result (Request × ℕ) RowError
held_request_of count fields = if length fields == count then held_as_asked (ask_row_of fields) else Err error.Fields

-- How a record is read as a `place` row, or why it is refused. The record has 10 fields.
abbrev pub place_row_of : List (List ℕ) → Result BookRow RowError
place_row_of fields = result_map_both (λ p. book_row.Place p.0 p.1) (λ e. e) (held_request_of 10 fields)

-- How a record is read as an `offer` row, or why it is refused. The record has the fields of a
-- `place` row.
abbrev pub offer_row_of : List (List ℕ) → Result BookRow RowError
offer_row_of fields = result_map_both (λ p. book_row.Offer p.0 p.1) (λ e. e) (held_request_of 10 fields)

-- The row that `make` makes of the id in a record of 2 fields, or why the record is refused.
abbrev pub id_row_of : (ℕ → BookRow) → List (List ℕ) → Result BookRow RowError
id_row_of make fields = if length fields == 2 then result_map_both make (λ e. e) (number_at fields 2) else Err error.Fields

-- How a record is read as a `release` row, or why it is refused. The record has 2 fields.
abbrev pub release_row_of : List (List ℕ) → Result BookRow RowError
release_row_of fields = id_row_of book_row.Release fields

-- How a record is read as a `show` row, or why it is refused. The record has 2 fields.
abbrev pub show_row_of : List (List ℕ) → Result BookRow RowError
show_row_of fields = id_row_of book_row.Show fields

-- the key of a link in the fields 2 and 3: a router, and the address of its interface
abbrev pub left_key_of : List (List ℕ) → Result (ℕ × ℕ) RowError
left_key_of fields = do
  from ← address_at fields 2
  local ← address_at fields 3
  Ok (from, local)

-- How a record is read as a `left` row, or why it is refused. The record has 3 fields.
abbrev pub left_row_of : List (List ℕ) → Result BookRow RowError
left_row_of fields = if length fields == 3 then result_map_both (λ k. book_row.Left k.0 k.1) (λ e. e) (left_key_of fields) else Err error.Fields

-- the router that the last of these steps leads to; without steps, the router `from`
abbrev pub end_of_steps : ℕ → List (ℕ × ℕ) → ℕ
end_of_steps from [] = from
end_of_steps from (step ∷ steps) = end_of_steps step.1 steps

-- the path of a request's placement, if it has these steps; they have to lead to the tail-end
abbrev pub path_of_steps : Request → Option (List (ℕ × ℕ)) → Result (List Passed) BookRowError
path_of_steps q None = Err refused.Route
path_of_steps q (Some steps) = if end_of_steps q.from steps == q.to then Ok (path_from q.from steps) else Err refused.Route

-- The path of a `held` row's request, if `text` is the row's route. The path begins at the head-end.
-- The route is refused if it can't be read, has no links, or doesn't lead to the tail-end.
abbrev pub held_route_of : Request → List ℕ → Result (List Passed) BookRowError
held_route_of q text = path_of_steps q (steps_of text)

-- The placement of a request that was read from a `held` row, with this route. The priority that was
-- read as the setup priority is the holding priority. The setup priority is 7.
abbrev pub held_placement : Request → List Passed → Placement
held_placement q path = record { request = at_lowest_setup q; hold = q.setup; route = path; priority = q.priority }

-- How a record is read as a `held` row, if its fields were read as those of an `ask` row. The last
-- field is the route.
abbrev pub held_as_read : List (List ℕ) → Result Row RowError → Result BookRow BookRowError
held_as_read fields (Err e) = Err (refused.Row e)
held_as_read fields (Ok (row.Ask q)) = result_map_both (λ path. book_row.Held (held_placement q path)) (λ e. e) (held_route_of q (field fields 11))
held_as_read fields (Ok other) = Err (refused.Row error.Kind)

-- How a record is read as a `held` row, or why it is refused. The record has 11 fields: those of a
-- `place` row, and the route.
abbrev pub held_row_of : List (List ℕ) → Result BookRow BookRowError
held_row_of fields = held_as_read fields (if length fields == 11 then ask_row_of fields else Err error.Fields)

-- how a record that is no `held` row is read as a row, or the first reason why it is refused
abbrev pub other_row_of : List (List ℕ) → Result BookRow RowError
other_row_of fields =
    if is_kind fields (codes "place")
    then place_row_of fields
    else (if is_kind fields (codes "release")
    then release_row_of fields
    else (if is_kind fields (codes "offer")
    then offer_row_of fields
    else (if is_kind fields (codes "show")
    then show_row_of fields
    else (if is_kind fields (codes "left") then left_row_of fields else result_map_both book_row.Base (λ e. e) (row_of fields)))))

-- how a book reads a record as a row, or the first reason why it refuses the record
unfoldable pub book_row_of : List (List ℕ) → Result BookRow BookRowError
book_row_of fields =
    if is_kind fields (codes "held") then held_row_of fields else result_map_both (λ row. row) refused.Row (other_row_of fields)
