-- What an audit states of a line, if it knows whether the line is a right answer.
use Rattle.std.proofs.Common.{◌≡◌, ℕ, ◌↔◌, Bool, true, false, IsTrue, List, refl}
use Rattle.cspf_model.specs.Database.{Database}
use Rattle.cspf_judge.specs.Asks.{AskSpec, IsJudged}

-- A test that says exactly whether the line answers the row.
pub judged_by : {A : Type 0} (spec : AskSpec A) (d : Database) (row : A) (version : ℕ) (line : List ℕ) (right : Bool)
    → (¬ spec.answers d row version line → spec.differs d row version line) → IsTrue right ↔ spec.answers d row version line
    → IsJudged spec d row version line right
judged_by spec d row version line true other test = test.0 refl
judged_by spec d row version line false other test = other (λ is. let no : false ≡ true = test.1 is in cc)

-- A test that passes only lines that answer the row, where nothing is stated about other lines.
pub judged_if : {A : Type 0} (spec : AskSpec A) (d : Database) (row : A) (version : ℕ) (line : List ℕ) (right : Bool)
    → spec.differs d row version line → (IsTrue right → spec.answers d row version line)
    → IsJudged spec d row version line right
judged_if spec d row version line true other test = test refl
judged_if spec d row version line false other test = other
