-- Defines how the text of the replies is cut into lines.
use Rattle.std.specs.Prelude.{◌≡◌, ◌≢◌, ◌<◌, ◌⊎◌, ℕ, List, [], ◌∷◌, ◌++◌, length}
use Rattle.std.specs.List.{AllByRecursion}
use Rattle.cspf_rows.specs.declared.limits.TheConstants.{MOST_ROWS}

-- no byte of a line is a line feed
abbrev pub HasNoFeed : List ℕ → Type 0
HasNoFeed line = AllByRecursion (λ byte. byte ≢ 10) line

-- the text is this one line, which isn't empty, without a line feed after it
abbrev pub IsLastLine : List ℕ → List ℕ → Type 0
IsLastLine text line = (text ≡ line) × (line ≢ [])

-- The text consists of these lines. A line feed follows each line, but it may be missing after the
-- last line. A line feed at the end of the text doesn't start another line.
abbrev pub AreLines : List ℕ → List (List ℕ) → Type 0
AreLines text [] = text ≡ []
AreLines text (line ∷ lines) =
    HasNoFeed line
    × ((IsLastLine text line × (lines ≡ []))
    ⊎ ((rest : List ℕ) × (text ≡ line ++ 10 ∷ rest) × AreLines rest lines))

-- the text has more than `MOST_ROWS` lines
abbrev pub HasTooManyLines : List ℕ → Type 0
HasTooManyLines text = (lines : List (List ℕ)) × AreLines text lines × (MOST_ROWS < length lines)
