-- How a stream of bytes is cut into records, and which records a reader hasn't read yet.
use Rattle.std.specs.Prelude.{◌≡◌, ◌+◌, ℕ, Bool, true, false, List, [], ◌∷◌, length, Option, Some, None}
use Rattle.std.specs.Option.{option_map}
use Rattle.csv.specs.Reading.{default_config, records, strip_bom, records_from, source_of, reader_state, reader_trim, reader_config, is_flexible, has_failed, Ready}
use Rattle.csv.specs.declared.parser.State.{State}
use Rattle.csv.specs.declared.reader.Reader.{Reader}
use Rattle.csv.specs.declared.reader.Trim.TheVariants as trim

-- the records of a stream: a record is a list of fields, and a field is a list of bytes
abbrev pub Records : Type 0
Records = List (List (List ℕ))

-- The rows of a stream are the records that `csv` finds in its bytes, with the settings of its
-- default reader and no header. Fields are cut at commas and may be in double quotes. A row ends at
-- the end of its line, and an empty line is no row. A byte order mark at the very start is skipped.
unfoldable pub rows_of : List ℕ → List (List (List ℕ))
rows_of bytes = records default_config (strip_bom bytes)

-- the rows in the bytes that are left, if the reader of these bytes is in state `s`
unfoldable pub rest_of : State → List ℕ → List (List (List ℕ))
rest_of s bytes = records_from default_config (length bytes + 1) s bytes

-- the rows that a reader hasn't read yet, or nothing if its unread bytes aren't known
abbrev pub rows_left : {R : Type 0} → (R → Option (List ℕ)) → Reader R → Option (List (List (List ℕ)))
rows_left rem r = option_map (λ bytes. rest_of (reader_state r) bytes) (source_of rem r)

-- The reader has the default settings and hasn't failed. No record is read as a header, and a
-- record may have any number of fields.
pub record IsPlain {R : Type 0} (r : Reader R) : Type 0 where
  pub trim : reader_trim r ≡ trim.None
  pub ready : Ready r
  pub config : reader_config r ≡ default_config
  pub flexible : is_flexible r ≡ true
  pub going : has_failed r ≡ false

-- What one read does to the rows that are left. If it found a row, this was the first of these
-- rows, and `after` has the others. If it found no row, no row was left.
abbrev pub Takes : Option (List (List (List ℕ))) → Option (List (List (List ℕ))) → Bool → List (List ℕ) → Type 0
Takes None after found fields = Unit {0}
Takes (Some rows) after false fields = rows ≡ []
Takes (Some rows) None true fields = ⊥
Takes (Some rows) (Some rest) true fields = rows ≡ fields ∷ rest
