-- How one more record changes which rows that ask were read from a stream.
use Rattle.std.proofs.Common.{◌≡◌, ℕ, ◌+◌, ◌<◌, ◌≤◌, true, List, [], ◌∷◌, ◌++◌, map, length, Option, IfSome, Ok, Err, sym, ap, subst, ◌∙◌, arith}
use Rattle.std.proofs.lemmas.List.{map-append, length-map}
use Rattle.cspf_rows.specs.declared.limits.TheConstants.{MOST_ROWS}
use Rattle.cspf_rows.specs.declared.requests_error.RequestsError.{RequestsError}
use Rattle.cspf_rows.specs.declared.requests_error.RequestsError.TheVariants as requests_error
use Rattle.cspf_rows.specs.Records.{Takes}
use Rattle.cspf_rows.specs.Progress.{HasSeen}
use Rattle.cspf_rows.proofs.ProgressLemmas.{sees_another, if_some_more}
use Rattle.cspf_questions.specs.QuestionRows.{read_fields}
use Rattle.cspf_questions.specs.AskedRows.{read_back, AreAskedRows, HasAskedBefore, IsFirstNotAsked, IsRequestsFaultOfAsked, IsAskedFault}
use Rattle.cspf_questions.specs.AskedReading.{IsRequestsRefusedAt, IsAskedRefusedAt}
use Rattle.cspf_questions.specs.declared.asked.AskedError.{AskedError}
use Rattle.cspf_questions.specs.declared.asked.AskedError.TheVariants as asked_error
use Rattle.cspf_questions.specs.declared.asked.AskedRow.{AskedRow}
use Rattle.cspf_questions.specs.declared.kinds.QuestionKinds.{QuestionKinds}
use Rattle.cspf_questions.specs.declared.reading.ReadFields.{ReadFields}
use Rattle.cspf_questions.specs.declared.reading.ReadFields.TheVariants as reading

abbrev Records : Type 0
Records = List (List (List ℕ))

-- Let the records that were read say `rows`, and the next record `row`. Then all these records say
-- `rows` followed by `row`.
pub rows_more : (kinds : QuestionKinds) (seen : List (List (List ℕ))) (rows : List AskedRow) (fields : List (List ℕ)) (row : AskedRow)
    → AreAskedRows kinds seen rows → read_fields kinds fields ≡ read_back row → AreAskedRows kinds (seen ++ (fields ∷ [])) (rows ++ (row ∷ []))
rows_more kinds seen rows fields row are read =
    map-append (read_fields kinds) seen (fields ∷ [])
    ∙ ap (λ front. front ++ (read_fields kinds fields ∷ [])) are
    ∙ ap (λ last. map read_back rows ++ (last ∷ [])) read
    ∙ sym (map-append read_back rows (row ∷ []))

module _ (kinds : QuestionKinds) (said : List AskedRow) (all left next : Option (List (List (List ℕ)))) (count : ℕ) (fields : List (List ℕ))
    (h : HasSeen (λ seen. AreAskedRows kinds seen said) all left count) (takes : Takes left next true fields) where
  -- `count` records precede the next record, and each of them is a row that asks
  behind_rows : IfSome all (λ rows. HasAskedBefore kinds rows count fields)
  behind_rows =
      if_some_more all (λ rows more. record { before = more.0; rows = said; after = more.1; split = more.2; are_rows = more.3; counted = more.4 })
      (sees_another (λ seen. AreAskedRows kinds seen said) all left next count fields h takes)

  first_other : (place : ℕ) (read : ReadFields) (rows : Records) → count < MOST_ROWS → place ≡ count + 1 → read_fields kinds fields ≡ read
      → HasAskedBefore kinds rows count fields → IsFirstNotAsked kinds rows place read
  first_other place read rows few at is asked = record { count = count; fields = fields; asked = asked; is_there = at; is_read = is; within = omega arith }

  -- the next two lemmas: if the stream is refused with the error `why` because of the next record,
  -- `why` is a valid error of the whole stream
  refused_requests : (why : RequestsError) → count < MOST_ROWS → IsRequestsRefusedAt (count + 1) (read_fields kinds fields) why
      → IfSome all (λ rows. IsRequestsFaultOfAsked kinds rows why)
  refused_requests requests_error.Memory few refused = if_some_more all (λ rows asked. tt) behind_rows
  refused_requests requests_error.Device few refused = absurd refused
  refused_requests requests_error.TooManyRows few refused = absurd refused
  refused_requests (requests_error.Bad place error) few refused =
      if_some_more all (λ rows asked. first_other place (reading.Row (Err error)) rows few refused.0 refused.1 asked) behind_rows
  refused_requests (requests_error.NotAsk place) few refused =
      let other = refused.1 in
      if_some_more all (λ rows asked. (other.0, other.1, first_other place (reading.Row (Ok other.0)) rows few refused.0 other.2 asked)) behind_rows

  pub refused_at : (why : AskedError) → count < MOST_ROWS → IsAskedRefusedAt (count + 1) (read_fields kinds fields) why → IfSome all (λ rows. IsAskedFault kinds rows why)
  refused_at (asked_error.Requests why) few refused = refused_requests why few refused
  refused_at (asked_error.Question place error) few refused =
      if_some_more all (λ rows asked. first_other place (reading.Refused error) rows few refused.0 refused.1 asked) behind_rows

  -- if one more record follows `MOST_ROWS` records, the stream has too many rows
  pub one_too_many : count ≡ MOST_ROWS → IfSome all (λ rows. IsAskedFault kinds rows (asked_error.Requests requests_error.TooManyRows))
  one_too_many whole =
      if_some_more all (λ rows asked. record { fields = fields; asked = subst (λ n. HasAskedBefore kinds rows n fields) whole asked }) behind_rows

-- if at most `MOST_ROWS` records were read, they say at most `MOST_ROWS` rows
pub few_rows : (kinds : QuestionKinds) (said : List AskedRow) (all left : Option (List (List (List ℕ)))) (count : ℕ)
    → HasSeen (λ seen. AreAskedRows kinds seen said) all left count → count ≤ MOST_ROWS → length said ≤ MOST_ROWS
few_rows kinds said all left count h few =
    let same : length h.seen ≡ length said =
    sym (length-map h.seen (read_fields kinds)) ∙ ap length h.holds ∙ length-map said read_back in
    omega (arith, same, h.counted)
