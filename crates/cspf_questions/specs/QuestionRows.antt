-- How a record is read as a question, or left to the rows of a database.
use Rattle.std.specs.Prelude.{ℕ, ◌+◌, ◌==◌, ◌&&◌, nat_lt, if◌then◌else◌, List, [], ◌∷◌, length, codes, Option, Some, None, Result, Ok, Err}
use Rattle.std.specs.Str.{bytes_eq}
use Rattle.std.specs.Option.{ok_or}
use Rattle.cspf_addr.specs.ResultSteps.{◌>>=◌}
use Rattle.cspf_addr.specs.HopLists.{parts_of}
use Rattle.cspf_model.specs.declared.request.Request.{Request}
use Rattle.cspf_rows.specs.declared.row.Row.{Row}
use Rattle.cspf_rows.specs.declared.row.Row.TheVariants as row
use Rattle.cspf_rows.specs.declared.row_error.RowError.{RowError}
use Rattle.cspf_rows.specs.declared.row_error.RowError.TheVariants as row_error
use Rattle.cspf_rows.specs.FieldValues.{field}
use Rattle.cspf_rows.specs.Rows.{row_of, ask_row_of, is_kind}
use Rattle.cspf_exclusions.specs.declared.exclusion.Exclusion.{Exclusion}
use Rattle.cspf_exclusions.specs.declared.exclusion.TheConstants.{MOST_EXCLUSIONS}
use Rattle.cspf_pair.specs.declared.kind.Kind.{Kind}
use Rattle.cspf_pair.specs.declared.kind.Kind.TheVariants as kind
use Rattle.cspf_questions.specs.ExclusionText.{exclusion_of}
use Rattle.cspf_questions.specs.declared.error.ExceptFault.{ExceptFault}
use Rattle.cspf_questions.specs.declared.error.ExceptFault.TheVariants as fault
use Rattle.cspf_questions.specs.declared.error.QuestionError.TheVariants as error
use Rattle.cspf_questions.specs.declared.kinds.QuestionKinds.{QuestionKinds}
use Rattle.cspf_questions.specs.declared.question.Question.TheVariants as question
use Rattle.cspf_questions.specs.declared.reading.ReadFields.{ReadFields}
use Rattle.cspf_questions.specs.declared.reading.ReadFields.TheVariants as reading

-- The exclusions that these parts spell, or the fault of the first part that isn't an exclusion. The
-- parts are numbered from `at` on.
abbrev pub exclusions_from : ℕ → List (List ℕ) → Result (List Exclusion) ExceptFault
exclusions_from at [] = Ok []
exclusions_from at (part ∷ parts) = do
  one ← ok_or (exclusion_of part) (fault.Part at)
  more ← exclusions_from (at + 1) parts
  Ok (one ∷ more)

-- The exclusions that a text spells: 1 to 64 parts with one space between each two. More parts are
-- refused before a part is read.
unfoldable pub exclusions_of : List ℕ → Result (List Exclusion) ExceptFault
exclusions_of text =
    if nat_lt MOST_EXCLUSIONS (length (parts_of text))
    then Err fault.Count
    else exclusions_from 1 (parts_of text)

-- The request of a row that was read as an `ask` row, or the reason why it is refused. A row that is
-- read as an `ask` row is no other row.
abbrev pub request_in : Result Row RowError → Result Request RowError
request_in (Err why) = Err why
request_in (Ok (row.Ask q)) = Ok q
request_in (Ok other) = Err row_error.Kind

-- what an `except` row is read as, by its request and its exclusions
abbrev pub with_exclusions : Result Request RowError → Result (List Exclusion) ExceptFault → ReadFields
with_exclusions (Err why) parts = reading.Refused (error.Row why)
with_exclusions (Ok q) (Ok parts) = reading.Question (question.Except (record { request = q; exclusions = parts }))
with_exclusions (Ok q) (Err why) = reading.Refused (error.Except why)

-- An `except` row has 11 fields. The fields 2 to 10 are those of an `ask` row, and the last field
-- has the exclusions.
abbrev pub except_fields : List (List ℕ) → ReadFields
except_fields fields =
    if length fields == 11
    then with_exclusions (request_in (ask_row_of fields)) (exclusions_of (field fields 11))
    else reading.Refused (error.Row row_error.Fields)

-- the kind of pair that a text names
unfoldable pub pair_kind_of : List ℕ → Option Kind
pair_kind_of text =
    if bytes_eq text (codes "circuits") then Some kind.Circuits
    else (if bytes_eq text (codes "routers") then Some kind.Routers else None)

-- the first nine fields, and an empty field
abbrev pub without_hops : List (List ℕ) → List (List ℕ)
without_hops fields =
    field fields 1 ∷ field fields 2 ∷ field fields 3 ∷ field fields 4 ∷ field fields 5
    ∷ field fields 6 ∷ field fields 7 ∷ field fields 8 ∷ field fields 9 ∷ [] ∷ []

-- what a `pair` row is read as, by its request and its kind of pair
abbrev pub with_kind : Result Request RowError → Option Kind → ReadFields
with_kind (Err why) named = reading.Refused (error.Row why)
with_kind (Ok q) (Some named) = reading.Question (question.Pair (record { request = q; kind = named }))
with_kind (Ok q) None = reading.Refused error.PairKind

-- A `pair` row has 10 fields. The fields 2 to 9 are those of an `ask` row, and the last field names
-- the kind of pair. The request has no hops.
abbrev pub pair_fields : List (List ℕ) → ReadFields
pair_fields fields =
    if length fields == 10
    then with_kind (request_in (ask_row_of (without_hops fields))) (pair_kind_of (field fields 10))
    else reading.Refused (error.Row row_error.Fields)

-- What a record is read as, if questions of these kinds are answered. A record that is no row of a
-- question is left to the rows of a database.
unfoldable pub read_fields : QuestionKinds → List (List ℕ) → ReadFields
read_fields kinds fields =
    if kinds.except && is_kind fields (codes "except")
    then except_fields fields
    else (if kinds.pair && is_kind fields (codes "pair") then pair_fields fields else reading.Row (row_of fields))
