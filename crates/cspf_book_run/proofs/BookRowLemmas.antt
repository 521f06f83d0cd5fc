-- What holds of each row that is read from a record.
use Rattle.std.proofs.Common.{◌≡◌, ◌<◌, ◌==◌, ℕ, Bool, true, false, cond, List, length, codes, inl, inr, refl, Option, Some, None, Result, Ok, Err, IfOk}
use Rattle.std.proofs.lemmas.Bool.{cases_Bool, eqb-true}
use Rattle.std.specs.Result.{result_map_both}
use Rattle.cspf_model.specs.declared.request.Request.{Request}
use Rattle.cspf_rows.specs.declared.row.Row.{Row}
use Rattle.cspf_rows.specs.declared.row.Row.TheVariants as row
use Rattle.cspf_rows.specs.declared.row_error.RowError.{RowError}
use Rattle.cspf_rows.specs.declared.row_error.RowError.TheVariants as error
use Rattle.cspf_rows.specs.FieldValues.{field, number_at}
use Rattle.cspf_rows.specs.Rows.{ask_row_of, is_kind, row_of}
use Rattle.cspf_book_run.specs.declared.book_row.BookRow.{BookRow}
use Rattle.cspf_book_run.specs.declared.book_row.BookRow.TheVariants as book_row
use Rattle.cspf_book_run.specs.declared.book_row_error.BookRowError.{BookRowError}
use Rattle.cspf_book_run.specs.declared.book_row_error.BookRowError.TheVariants as refused
use Rattle.cspf_book_run.specs.RouteText.{steps_of}
use Rattle.cspf_book_run.proofs.RowRequests.{steps_lead}
use Rattle.cspf_book_run.specs.BookRows.{at_lowest_setup, held_as_asked, held_as_read, held_placement, end_of_steps, path_of_steps, id_row_of, left_key_of, place_row_of, release_row_of, held_row_of, offer_row_of, show_row_of, left_row_of, other_row_of, book_row_of}
use Rattle.cspf_book_run.specs.BookStates.{IsReadable}

readable_if : (b : Bool) (r s : Result BookRow RowError) → IfOk r IsReadable → IfOk s IsReadable → IfOk (cond b r s) IsReadable
readable_if true r s first second = first
readable_if false r s first second = second

readable_count : (b : Bool) (r : Result BookRow RowError) → IfOk r IsReadable → IfOk (cond b r (Err error.Fields)) IsReadable
readable_count true r readable = readable
readable_count false r readable = tt

readable_made : {A : Type 0} (make : A → BookRow) (r : Result A RowError) → ((x : A) → IsReadable (make x)) → IfOk (result_map_both make (λ e. e) r) IsReadable
readable_made make (Ok x) readable = readable x
readable_made make (Err e) readable = tt

-- In this module, `make` makes a row of a request and a holding priority. The row is readable if the
-- setup priority is 7 and the holding priority is at most 7.
module _ (make : Request → ℕ → BookRow) (readable : (q : Request) (hold : ℕ) → q.setup ≡ 7 → hold < 8 → IsReadable (make q hold)) where
  readable_asked : (b : Bool) (r : Result Row RowError)
      → IfOk (result_map_both (λ (p : Request × ℕ). make p.0 p.1) (λ e. e) (cond b (held_as_asked r) (Err error.Fields))) IsReadable
  readable_asked true (Ok (row.Ask q)) = readable (at_lowest_setup q) q.setup refl q.priority
  readable_asked true other = tt
  readable_asked false r = tt

readable_id : (make : ℕ → BookRow) (fields : List (List ℕ)) → ((id : ℕ) → IsReadable (make id)) → IfOk (id_row_of make fields) IsReadable
readable_id make fields readable =
    readable_count (length fields == 2) (result_map_both make (λ e. e) (number_at fields 2)) (readable_made make (number_at fields 2) readable)

-- If the path along steps is the route of a `held` row, it leads from the head-end to the tail-end.
readable_path : (q : Request) (steps : Option (List (ℕ × ℕ))) → IfOk (result_map_both (λ path. book_row.Held (held_placement q path)) (λ e. e) (path_of_steps q steps)) IsReadable
readable_path q None = tt
readable_path q (Some steps) = elim (cases_Bool (end_of_steps q.from steps == q.to)) [
  | inl end ↦ rw end (refl, (steps_lead q.from q.to steps).1 (eqb-true (end_of_steps q.from steps) q.to end))
  | inr other ↦ rw other tt
]

readable_held : (fields : List (List ℕ)) (r : Result Row RowError) → IfOk (held_as_read fields r) IsReadable
readable_held fields (Ok (row.Ask q)) = readable_path q (steps_of (field fields 11))
readable_held fields other = tt

readable_other : (r : Result BookRow RowError) → IfOk r IsReadable → IfOk (result_map_both (λ (x : BookRow). x) refused.Row r) IsReadable
readable_other (Ok r) readable = readable
readable_other (Err e) readable = tt

readable_either : (b : Bool) (r s : Result BookRow BookRowError) → IfOk r IsReadable → IfOk s IsReadable → IfOk (cond b r s) IsReadable
readable_either true r s first second = first
readable_either false r s first second = second

-- In a row that is read from a record and has a request, the setup priority is 7 and the holding
-- priority is at most 7. The route of a `held` row leads from the head-end to the tail-end.
pub readable_row : (fields : List (List ℕ)) → IfOk (book_row_of fields) IsReadable
unfolding book_row_of
readable_row fields =
    let asked = ask_row_of fields in
    let left = result_map_both (λ (k : ℕ × ℕ). book_row.Left k.0 k.1) (λ e. e) (left_key_of fields) in
    let base = result_map_both book_row.Base (λ e. e) (row_of fields) in
    let base_case = readable_made book_row.Base (row_of fields) (λ row. tt) in
    let left_case = readable_count (length fields == 3) left (readable_made (λ (k : ℕ × ℕ). book_row.Left k.0 k.1) (left_key_of fields) (λ k. tt)) in
    let from_left = readable_if (is_kind fields (codes "left")) (left_row_of fields) base left_case base_case in
    let from_show = readable_if (is_kind fields (codes "show")) (show_row_of fields) _ (readable_id book_row.Show fields (λ id. tt)) from_left in
    let from_offer = readable_if (is_kind fields (codes "offer")) (offer_row_of fields) _ (readable_asked book_row.Offer (λ q hold seven small. (seven, small)) (length fields == 10) asked) from_show in
    let from_release = readable_if (is_kind fields (codes "release")) (release_row_of fields) _ (readable_id book_row.Release fields (λ id. tt)) from_offer in
    let from_place = readable_if (is_kind fields (codes "place")) (place_row_of fields) _ (readable_asked book_row.Place (λ q hold seven small. (seven, small)) (length fields == 10) asked) from_release in
    readable_either (is_kind fields (codes "held")) (held_row_of fields) _ (readable_held fields (cond (length fields == 11) asked (Err error.Fields))) (readable_other (other_row_of fields) from_place)
