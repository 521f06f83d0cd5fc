-- The row that a record says, or the first reason why it is refused.
use Rattle.std.specs.Prelude.{◌≡◌, ◌≢◌, ◌<◌, ℕ, suc, Bool, ◌==◌, if◌then◌else◌, List, [], ◌∷◌, length, codes, refl, Result, Ok, Err}
use Rattle.std.specs.Str.{bytes_eq}
use Rattle.std.proofs.Math.Decide.{ℕ_discrete, dec_le}
use Rattle.cspf_model.specs.Fields.{LinkFields, RequestFields}
use Rattle.cspf_model.specs.declared.link.Link.{Link}
use Rattle.cspf_model.specs.declared.request.Request.{Request}
use Rattle.cspf_rows.specs.declared.row.Row.{Row}
use Rattle.cspf_rows.specs.declared.row.Row.TheVariants as row
use Rattle.cspf_rows.specs.declared.row_error.RowError.{RowError}
use Rattle.cspf_rows.specs.declared.row_error.RowError.TheVariants as error
use Rattle.cspf_addr.specs.ResultSteps.{◌>>=◌}
use Rattle.cspf_rows.specs.FieldValues.{field, number_at, small_number_at, priority_at, flag_at, address_at, mask_at, hops_at}

-- the link with these attributes; its two endpoints have to be different routers
abbrev pub link_with : (link : LinkFields) → length link.free ≡ 8 → link.from ≢ link.to → Link
link_with link eight apart =
    record { from = link.from; local = link.local; to = link.to; remote = link.remote; metric = link.metric; group = link.group; free = link.free; eight = eight; two_ends = apart }

-- the row that puts the link with these attributes, or a refusal if both endpoints of the link are
-- the same router
abbrev pub put_between : (link : LinkFields) → length link.free ≡ 8 → Dec (link.from ≡ link.to) → Result Row RowError
put_between link eight (yes same) = Err error.SelfLink
put_between link eight (no apart) =
    Ok (row.Put (link_with link eight apart))

-- the row that puts the link with these attributes; a link from a router to itself is refused
unfoldable pub put : (link : LinkFields) → length link.free ≡ 8 → Result Row RowError
put link eight = put_between link eight (ℕ_discrete link.from link.to)

-- the request with these fields; its setup priority has to be below 8, and its head-end has to
-- differ from its tail-end
abbrev pub request_with : (request : RequestFields) → request.setup < 8 → request.from ≢ request.to → Request
request_with request below apart =
    record { id = request.id; from = request.from; to = request.to; setup = request.setup; bandwidth = request.bandwidth; exclude_any = request.exclude_any; include_any = request.include_any; include_all = request.include_all; hops = request.hops; priority = below; two_ends = apart }

-- The row that asks for this request. The request is refused if its setup priority isn't below 8,
-- or if head-end and tail-end are the same router.
abbrev pub ask_between : (request : RequestFields) → Dec (request.setup < 8) → Dec (request.from ≡ request.to) → Result Row RowError
ask_between request (no above) ends = Err error.Priority
ask_between request (yes below) (yes same) = Err error.SameEnds
ask_between request (yes below) (no apart) =
    Ok (row.Ask (request_with request below apart))

-- the row that asks for this request; a setup priority above 7 is refused, and so is a request from
-- a router to itself
unfoldable pub ask : RequestFields → Result Row RowError
ask request = ask_between request (dec_le (suc request.setup) 8) (ℕ_discrete request.from request.to)

-- the row of 15 fields that puts a link in the database
unfoldable pub put_row_of : List (List ℕ) → Result Row RowError
put_row_of fields = do
  from ← address_at fields 2
  local ← address_at fields 3
  to ← address_at fields 4
  remote ← address_at fields 5
  metric ← small_number_at fields 6
  group ← mask_at fields 7
  u0 ← number_at fields 8
  u1 ← number_at fields 9
  u2 ← number_at fields 10
  u3 ← number_at fields 11
  u4 ← number_at fields 12
  u5 ← number_at fields 13
  u6 ← number_at fields 14
  u7 ← number_at fields 15
  put (record { from = from; local = local; to = to; remote = remote; metric = metric; group = group; free = u0 ∷ u1 ∷ u2 ∷ u3 ∷ u4 ∷ u5 ∷ u6 ∷ u7 ∷ [] }) refl

-- The row that `make` makes of the values of two fields. If a field has an error instead of a
-- value, the result is the first such error.
abbrev pub row_of_two : {A B : Type 0} → Result A RowError → Result B RowError → (A → B → Row) → Result Row RowError
row_of_two first second make = do
  one ← first
  two ← second
  Ok (make one two)

-- the row of 3 fields that removes a link
unfoldable pub drop_row_of : List (List ℕ) → Result Row RowError
drop_row_of fields = row_of_two (address_at fields 2) (address_at fields 3) row.Remove

-- the row of 3 fields that says whether a router has transit
unfoldable pub node_row_of : List (List ℕ) → Result Row RowError
node_row_of fields = row_of_two (address_at fields 2) (flag_at fields 3) row.Node

-- the row of 3 fields that ends a batch
unfoldable pub end_row_of : List (List ℕ) → Result Row RowError
end_row_of fields = row_of_two (small_number_at fields 2) (small_number_at fields 3) row.End

-- the row of 10 fields that asks for a route
unfoldable pub ask_row_of : List (List ℕ) → Result Row RowError
ask_row_of fields = do
  id ← number_at fields 2
  from ← address_at fields 3
  to ← address_at fields 4
  setup ← priority_at fields 5
  bandwidth ← number_at fields 6
  exclude_any ← mask_at fields 7
  include_any ← mask_at fields 8
  include_all ← mask_at fields 9
  hops ← hops_at fields 10
  ask (record { id = id; from = from; to = to; setup = setup; bandwidth = bandwidth; exclude_any = exclude_any; include_any = include_any; include_all = include_all; hops = hops })

-- reads a record that has `count` fields, and refuses any other record
abbrev pub of_count : ℕ → (List (List ℕ) → Result Row RowError) → List (List ℕ) → Result Row RowError
of_count count read fields = if length fields == count then read fields else Err error.Fields

-- the first field is this word
abbrev pub is_kind : List (List ℕ) → List ℕ → Bool
is_kind fields word = bytes_eq (field fields 1) word

-- the row that a record says, or the first reason why it is refused
unfoldable pub row_of : List (List ℕ) → Result Row RowError
row_of fields =
    if is_kind fields (codes "put")
    then of_count 15 put_row_of fields
    else (if is_kind fields (codes "drop")
    then of_count 3 drop_row_of fields
    else (if is_kind fields (codes "node")
    then of_count 3 node_row_of fields
    else (if is_kind fields (codes "end")
    then of_count 3 end_row_of fields
    else (if is_kind fields (codes "ask") then of_count 10 ask_row_of fields else Err error.Kind))))
