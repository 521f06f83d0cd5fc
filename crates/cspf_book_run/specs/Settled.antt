-- The part of a text that a torn end isn't part of. A file is torn if the end of its last row, or of
-- its last batch, wasn't written.
use Rattle.std.specs.Prelude.{◌≡◌, ◌≢◌, ◌+◌, ◌==◌, ◌||◌, ◌⊎◌, ℕ, Bool, IsTrue, List, [], ◌∷◌, ◌++◌, length, codes, nat_eq, position, Option}
use Rattle.std.specs.List.{flat_map, starts_with, AllByRecursion}
use Rattle.std.specs.Option.{option_map}
use Rattle.cspf_rows.specs.Records.{rows_of}
use Rattle.cspf_book_run.specs.Compacts.{IsCompaction, IsFirstRefused, AreUnended}
use Rattle.cspf_book_run.specs.declared.compact_stop.CompactStop.{CompactStop}
use Rattle.cspf_book_run.specs.declared.compact_stop.CompactStop.TheVariants as stop

-- whether a line begins with `end,`, `place,`, `release,` or `held,`
abbrev pub is_settling : List ℕ → Bool
is_settling line =
    starts_with nat_eq line (codes "end,") || starts_with nat_eq line (codes "place,")
    || starts_with nat_eq line (codes "release,") || starts_with nat_eq line (codes "held,")

-- the length of the first line with its line feed, if the text has a line feed
abbrev pub line_length : List ℕ → Option ℕ
line_length text = option_map (λ at. at + 1) (position (λ byte. byte == 10) text)

-- no byte of the text is a line feed
abbrev pub LacksFeed : List ℕ → Type 0
LacksFeed text = AllByRecursion (λ byte. byte ≢ 10) text

-- A whole line: it ends with a line feed, and has no other.
pub record IsWholeLine (line : List ℕ) : Type 0 where
  pub body : List ℕ
  pub feed : line ≡ body ++ 10 ∷ []
  pub plain : LacksFeed body

-- the text of lines, one after the other
abbrev pub text_of_lines : List (List ℕ) → List ℕ
text_of_lines lines = flat_map (λ line. line) lines

-- The last of the lines begins with `end,`, `place,`, `release,` or `held,`, or there are no lines.
pub record EndsSettled (lines : List (List ℕ)) : Type 0 where
  pub ends : (lines ≡ []) ⊎ ((before : List (List ℕ)) × (last : List ℕ) × (lines ≡ before ++ last ∷ []) × IsTrue (is_settling last))

-- The part has the first whole lines of the text. It is empty, or its last line begins with `end,`,
-- `place,`, `release,` or `held,`. No whole line after it begins so.
pub record IsSettledPart (text part : List ℕ) : Type 0 where
  pub lines : List (List ℕ)
  pub more : List (List ℕ)
  pub torn : List ℕ
  pub whole : text ≡ text_of_lines (lines ++ more) ++ torn
  pub front : part ≡ text_of_lines lines
  pub cut : AllByRecursion IsWholeLine (lines ++ more)
  pub rest : LacksFeed torn
  pub ends : EndsSettled lines
  pub none : AllByRecursion (λ line. ¬ IsTrue (is_settling line)) more

-- The part is the settled part of the bytes, and `left` bytes are left out.
pub record IsCutSettled (bytes part : List ℕ) (left : ℕ) : Type 0 where
  pub settled : IsSettledPart bytes part
  pub left_out : length bytes ≡ length part + left

-- The text is the compact stream of the book that the settled part of the bytes makes. `left` bytes
-- are left out.
abbrev pub IsTornCompaction : List ℕ → List ℕ → ℕ → Type 0
IsTornCompaction bytes text left = (part : List ℕ) × IsCutSettled bytes part left × IsCompaction (rows_of part) text

-- Why no compact stream is made of the settled part of the bytes. `left` bytes are left out.
abbrev pub IsTornStop : CompactStop → List ℕ → ℕ → Type 0
IsTornStop (stop.Stream why) bytes left = Unit {0}
IsTornStop (stop.Refused row line) bytes left = (part : List ℕ) × IsCutSettled bytes part left × IsFirstRefused (rows_of part) row line.items
IsTornStop (stop.Unended line) bytes left = (part : List ℕ) × IsCutSettled bytes part left × AreUnended (rows_of part) line.items
