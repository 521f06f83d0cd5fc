-- The answers to a stream of rows, one row after the other. Here a row is a list of fields, which
-- each `Answering` reads in its own way.
use Rattle.std.specs.Prelude.{◌≡◌, ℕ, suc, List, [], ◌∷◌, ◌++◌, Option, IfSome}
use Rattle.std.specs.Io.KnownBytes.{Appends}

-- a relation between a row's number, counted from 1, the state before the row, the row's fields,
-- its line, and the state after the row
abbrev pub AnswersOf : Type 0 → Type 1
AnswersOf S = ℕ → S → List (List ℕ) → List ℕ → S → Type 0

-- The rows are answered one after the other, from the state `s` to the state `t`. `place` is the
-- number of the first row.
unfoldable pub AreAnswered : {S : Type 0} → AnswersOf S → ℕ → S → List (List (List ℕ)) → List ℕ → S → Type 0
AreAnswered answers place s [] lines t = (lines ≡ []) × (t ≡ s)
AreAnswered {S} answers place s (fields ∷ rows) lines t =
    (line : List ℕ) × (next : S) × (more : List ℕ)
    × answers place s fields line next × (lines ≡ line ++ more) × AreAnswered answers (suc place) next rows more t

-- All rows of a stream are answered, and their lines are written. Rows are counted from 1. If the
-- rows of the stream are known, exactly these rows are answered.
pub record AreAllAnswered {S : Type 0} (answers : AnswersOf S) (all : Option (List (List (List ℕ)))) (s t : S) (old new : Option (List ℕ)) : Type 0 where
  pub done : List (List (List ℕ))
  pub lines : List ℕ
  pub whole : IfSome all (λ rows. rows ≡ done)
  pub answered : AreAnswered answers 1 s done lines t
  pub written : Appends old new lines
