-- The requests of rows, and the routes of `held` rows.
use Rattle.std.proofs.Common.{◌≡◌, ℕ, ◌<◌, List, [], ◌∷◌, Some, Result, Ok, Err, refl, sym, ap, subst, ◌∙◌}
use Rattle.std.proofs.Math.Bridge.{le_prop}
use Rattle.std.specs.Result.{result_map_both}
use Rattle.std.specs.Prelude.{◌↔◌}
use Rattle.std.proofs.lemmas.Bool.{eq-eqb, ne_eqb}
use Rattle.cspf_model.specs.Fields.{AreFieldsOfRequests, HasRequestFields, request_fields}
use Rattle.cspf_model.specs.declared.request.Request.{Request}
use Rattle.cspf_rows.proofs.AttributeLemmas.{ask-request}
use Rattle.cspf_book.specs.declared.path.Passed.{Passed}
use Rattle.cspf_book.specs.PathsFrom.{path_from, LeadFromTo}
use Rattle.cspf_book.specs.declared.placement.Placement.{Placement}
use Rattle.cspf_book_run.specs.declared.book_row.BookRow.{BookRow}
use Rattle.cspf_book_run.specs.declared.book_row.BookRow.TheVariants as book_row
use Rattle.cspf_book_run.specs.declared.book_row_error.BookRowError.{BookRowError}
use Rattle.cspf_book_run.specs.declared.book_row_error.BookRowError.TheVariants as refused
use Rattle.cspf_book_run.specs.BookRows.{at_lowest_setup, end_of_steps, held_placement, path_of_steps}

-- A request with the setup priority 7, and otherwise with the fields of `q`, is `at_lowest_setup
-- q`.
pub lowest_setup : AreFieldsOfRequests → (q r : Request)
    → HasRequestFields r (request_fields q.id q.from q.to 7 q.bandwidth q.exclude_any q.include_any q.include_all q.hops) → r ≡ at_lowest_setup q
lowest_setup requests q r h =
    let fields = request_fields q.id q.from q.to 7 q.bandwidth q.exclude_any q.include_any q.include_all q.hops in
    let one = ask-request requests r fields h in
    let other = ask-request requests (at_lowest_setup q) fields ((requests (at_lowest_setup q) fields).1 refl) in
    cc (sym one ∙ other)

-- The path along steps leads from the router where it begins to the router that the last step leads
-- to, and to no other router.
pub steps_lead : (from to : ℕ) (steps : List (ℕ × ℕ)) → LeadFromTo from to (path_from from steps) ↔ (end_of_steps from steps ≡ to)
steps_lead from to [] = (λ h. h, λ h. h)
steps_lead from to (step ∷ steps) =
    let more = steps_lead step.1 to steps in
    (λ h. more.0 h.1, λ h. (refl, more.1 h))

-- If the path along steps leads to a request's tail-end, it is the path that is read.
pub path_read : (q : Request) (steps : List (ℕ × ℕ)) (path : List Passed) → path ≡ path_from q.from steps → LeadFromTo q.from q.to path
    → Ok path ≡ path_of_steps q (Some steps)
path_read q steps path is leads =
    let end = (steps_lead q.from q.to steps).0 (rw is at leads) in
    rw (eq-eqb (end_of_steps q.from steps) q.to end) (ap Ok is)

-- If the path along steps doesn't lead to a request's tail-end, the route is refused.
pub path_refused : (q : Request) (steps : List (ℕ × ℕ)) (path : List Passed) → path ≡ path_from q.from steps → (LeadFromTo q.from q.to path → ⊥)
    → Err refused.Route ≡ path_of_steps q (Some steps)
path_refused q steps path is other =
    let apart = λ (end : end_of_steps q.from steps ≡ q.to). other (rw is ((steps_lead q.from q.to steps).1 end)) in
    rw (ne_eqb (end_of_steps q.from steps) q.to apart) refl

-- the row of a placement
abbrev held_row : Placement → Result BookRow BookRowError
held_row p = Ok (book_row.Held p)

-- the placement with this request, and otherwise with the parts of a request that was read
abbrev made : Request → (q : Request) → List Passed → q.setup < 8 → Placement
made r q path below = record { request = r; hold = q.setup; route = path; priority = below }

-- If the route is read as this path, the row of the placement with this path is the row that is read.
pub held_is : (q r : Request) (path : List Passed) (below : q.setup < 8) (read : Result (List Passed) BookRowError) → Ok path ≡ read → r ≡ at_lowest_setup q
    → Ok (book_row.Held (record { request = r; hold = q.setup; route = path; priority = below })) ≡ result_map_both (λ p. book_row.Held (held_placement q p)) (λ e. e) read
held_is q r path below read is same =
    ap (λ (x : Request). held_row (made x q path below)) same
    ∙ ap (λ (b : q.setup < 8). held_row (made (at_lowest_setup q) q path b)) (le_prop below q.priority)
    ∙ subst (λ (x : Result (List Passed) BookRowError). held_row (held_placement q path) ≡ result_map_both (λ p. book_row.Held (held_placement q p)) (λ e. e) x) is refl
