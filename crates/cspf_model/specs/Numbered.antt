-- Batches as plain data.
use Rattle.std.specs.Prelude.{◌≡◌, ℕ, ◌+◌, List, [], ◌∷◌}
use Rattle.cspf_model.specs.declared.batch.Change.{Change}

-- A batch as plain data, without pointers: its number, and its changes in order.
pub record NumberedChanges : Type 0 where
  pub number : ℕ
  pub changes : List Change

-- The batches have consecutive numbers, the first of which is `first`.
abbrev pub AreNumberedFrom : ℕ → List NumberedChanges → Type 0
AreNumberedFrom first [] = Unit {0}
AreNumberedFrom first (batch ∷ batches) = (batch.number ≡ first) × AreNumberedFrom (first + 1) batches
