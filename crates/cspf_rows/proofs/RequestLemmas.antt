-- How one more record changes which requests of a stream were read.
use Rattle.std.proofs.Common.{◌≡◌, ℕ, ◌+◌, ◌<◌, ◌≤◌, true, List, [], ◌∷◌, ◌++◌, length, Option, IfSome, Result, Ok, Err, refl, sym, ap, subst, ◌∙◌, arith}
use Rattle.std.proofs.lemmas.List.{map-append, length-map}
use Rattle.cspf_model.specs.declared.request.Request.{Request}
use Rattle.cspf_rows.specs.declared.limits.TheConstants.{MOST_ROWS}
use Rattle.cspf_rows.specs.declared.row.Row.{Row}
use Rattle.cspf_rows.specs.declared.row.Row.TheVariants as row
use Rattle.cspf_rows.specs.declared.row_error.RowError.{RowError}
use Rattle.cspf_rows.specs.declared.requests_error.RequestsError.{RequestsError}
use Rattle.cspf_rows.specs.declared.requests_error.RequestsError.TheVariants as fault
use Rattle.cspf_rows.specs.Rows.{row_of}
use Rattle.cspf_rows.specs.Records.{Takes}
use Rattle.cspf_rows.specs.Requests.{AreRequests, HasRequestsBefore, IsFirstOther, IsRequestsFault}
use Rattle.cspf_rows.specs.RequestReading.{IsRefusedAt}
use Rattle.cspf_rows.specs.Progress.{HasSeen}
use Rattle.cspf_rows.proofs.ProgressLemmas.{sees_another, if_some_more}

abbrev Records : Type 0
Records = List (List (List ℕ))

-- Let the records that were read ask for `requests`, and the next record for `request`. Then all
-- these records ask for `requests` followed by `request`.
pub requests_more : (seen : List (List (List ℕ))) (requests : List Request) (fields : List (List ℕ)) (request : Request)
    → AreRequests seen requests → row_of fields ≡ Ok (row.Ask request) → AreRequests (seen ++ (fields ∷ [])) (requests ++ (request ∷ []))
requests_more seen requests fields request are read =
    rw (map-append row_of seen (fields ∷ []), are, read, map-append {B = Result Row RowError} (λ (q : Request). Ok (row.Ask q)) requests (request ∷ [])) refl

module _ (requests : List Request) (all left next : Option (List (List (List ℕ)))) (count : ℕ) (fields : List (List ℕ))
    (h : HasSeen (λ rows. AreRequests rows requests) all left count) (takes : Takes left next true fields) where
  -- `count` records precede the next record, and each of them asks for a request
  behind_requests : IfSome all (λ rows. HasRequestsBefore rows count fields)
  behind_requests =
      if_some_more all (λ rows more. record { before = more.0; requests = requests; after = more.1; split = more.2; are_requests = more.3; counted = more.4 })
      (sees_another (λ rows. AreRequests rows requests) all left next count fields h takes)

  first_other : (read : Result Row RowError) (rows : Records) → count < MOST_ROWS → row_of fields ≡ read → HasRequestsBefore rows count fields
      → IsFirstOther rows (count + 1) read
  first_other read rows few said asked = record { count = count; fields = fields; asked = asked; is_there = refl; is_read = said; within = omega arith }

  -- if the stream is refused with the error `why` because of the next record, `why` is a valid
  -- error of the whole stream
  pub refused_at : (why : RequestsError) → count < MOST_ROWS → IsRefusedAt (count + 1) (row_of fields) why → IfSome all (λ rows. IsRequestsFault rows why)
  refused_at (fault.Bad place error) few refused =
      if_some_more all (λ rows asked. rw refused.0 (first_other (Err error) rows few refused.1 asked)) behind_requests
  refused_at (fault.NotAsk place) few refused =
      let other = refused.1 in
      if_some_more all (λ rows asked. rw refused.0 (other.0, other.1, first_other (Ok other.0) rows few other.2 asked)) behind_requests
  refused_at other few refused = absurd refused

  -- if one more record follows `MOST_ROWS` records, the stream has too many rows
  pub one_too_many : count ≡ MOST_ROWS → IfSome all (λ rows. IsRequestsFault rows fault.TooManyRows)
  one_too_many whole =
      if_some_more all (λ rows asked. record { fields = fields; asked = subst (λ n. HasRequestsBefore rows n fields) whole asked }) behind_requests

-- if at most `MOST_ROWS` records were read, at most `MOST_ROWS` requests were read
pub few_requests : (requests : List Request) (all left : Option (List (List (List ℕ)))) (count : ℕ)
    → HasSeen (λ rows. AreRequests rows requests) all left count → count ≤ MOST_ROWS → length requests ≤ MOST_ROWS
few_requests requests all left count h few =
    let same : length h.seen ≡ length requests =
    sym (length-map h.seen row_of) ∙ ap length h.holds ∙ length-map {B = Result Row RowError} requests (λ (q : Request). Ok (row.Ask q)) in
    omega (arith, same, h.counted)
