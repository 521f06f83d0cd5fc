-- Private: how a text is read line by line.
use Rattle.std.specs.Prelude.{◌≡◌, ◌⊎◌, ℕ, List, [], ◌∷◌, ◌++◌, Option, Some, None}
use Rattle.cspf_judge.specs.declared.audits.audit_error.AuditError.{AuditError}
use Rattle.cspf_judge.specs.declared.audits.audit_error.AuditError.TheVariants as error
use Rattle.cspf_judge.specs.Lines.{HasNoFeed, AreLines, IsLastLine}

-- memory was refused, or a read failed
abbrev pub IsReadingFault : AuditError → Type 0
IsReadingFault e = (e ≡ error.Memory) ⊎ (e ≡ error.Device)

-- memory was refused, a read failed, or there are too many lines
abbrev pub IsLinesFault : AuditError → Type 0
IsLinesFault e = IsReadingFault e ⊎ (e ≡ error.TooManyRows)

-- `line` is the first line of the text, and `rest` is the text after this line and its line feed
abbrev pub IsLineBefore : List ℕ → List ℕ → List ℕ → Type 0
IsLineBefore text line rest =
    HasNoFeed line × ((IsLastLine text line × (rest ≡ [])) ⊎ (text ≡ line ++ 10 ∷ rest))

-- The result of reading one line from a text: the first line of the text, or `None` if the text is
-- empty. The second argument is the text that is left. Nothing is stated if the text isn't known.
abbrev pub TakesLine : Option (List ℕ) → Option (List ℕ) → Option (List ℕ) → Type 0
TakesLine None after line = Unit {0}
TakesLine (Some text) after None = text ≡ []
TakesLine (Some text) None (Some line) = ⊥
TakesLine (Some text) (Some rest) (Some line) = IsLineBefore text line rest

-- the lines of the whole text are the lines `seen` that were read so far, and then the lines of the
-- text `left`
abbrev pub AreSeen : Option (List ℕ) → Option (List ℕ) → List (List ℕ) → Type 0
AreSeen None left seen = Unit {0}
AreSeen (Some all) None seen = ⊥
AreSeen (Some all) (Some left) seen =
    (more : List (List ℕ)) → AreLines left more → AreLines all (seen ++ more)
