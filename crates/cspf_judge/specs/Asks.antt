-- What an audit has to know of the rows that ask, whatever they ask for.
use Rattle.std.specs.Prelude.{◌≡◌, ℕ, Bool, true, false, List}
use Rattle.cspf_model.specs.Database.{Database}
use Rattle.cspf_ero.specs.declared.head.Head.{Head}

pub record AskSpec (A : Type 0) : Type 1 where
  -- the id of a row
  pub id : A → ℕ
  -- the line begins as a line that answers a row with this id, at this version
  pub begins : List ℕ → Head → Type 0
  -- The line, with a line feed added, answers the row in this database, and names this version.
  pub answers : Database → A → ℕ → List ℕ → Type 0
  -- This holds if the audit finds that the line doesn't answer the row.
  pub differs : Database → A → ℕ → List ℕ → Type 0

-- `right` says whether the audit finds that the line answers the row.
abbrev pub IsJudged : {A : Type 0} → AskSpec A → Database → A → ℕ → List ℕ → Bool → Type 0
IsJudged spec d row version line true = spec.answers d row version line
IsJudged spec d row version line false = spec.differs d row version line

-- a line begins with at most one pair of an id and a version
abbrev pub HasOneBeginning : {A : Type 0} → AskSpec A → Type 0
HasOneBeginning spec = (line : List ℕ) (head other : Head) → spec.begins line head → spec.begins line other → head ≡ other
