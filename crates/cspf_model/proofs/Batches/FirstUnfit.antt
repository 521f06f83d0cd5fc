-- Which batch of a list is the first that doesn't fit the database that the preceding batches make.
use Rattle.std.proofs.Common.{◌≡◌, ℕ, ◌+◌, ◌<◌, List, ◌∷◌, ◌++◌, length, take, drop, get_or, rules}
use Rattle.std.proofs.lemmas.List.{take-append-drop, drop_more}
use Rattle.cspf_model.specs.Numbered.{NumberedChanges}
use Rattle.cspf_model.specs.Changes.{AreLawful, database_after}
use Rattle.cspf_model.specs.declared.refusal.Refusal.{Refusal}
use Rattle.cspf_model.specs.Refusals.{IsRefusal, IsFirstUnfit}

-- A list of batches consists of three parts: the batches before the index `i`, the batch at `i`,
-- and the batches after `i`.
pub parted : (batches : List NumberedChanges) (i : ℕ) (b : NumberedChanges) → i < length batches
    → b ≡ get_or batches i b → batches ≡ take i batches ++ (b ∷ drop (i + 1) batches)
parted batches i b within h2 = search (rules, drop_more, take-append-drop)

-- Suppose that each batch before the index `i` fits the database that its predecessors make. If the
-- batch at `i` doesn't fit the database that all these batches make, it is the first batch that
-- doesn't fit.
abbrev pub first_unfit : (batches : List NumberedChanges) (i : ℕ) (b : NumberedChanges) → i < length batches
    → b ≡ get_or batches i b → (number : ℕ) (why : Refusal) → number ≡ b.number
    → AreLawful (take i batches) → IsRefusal (database_after (take i batches)) b why
    → IsFirstUnfit batches number why
first_unfit batches i b within is_next number why is_its lawful refused = record {
  before = take i batches;
  batch = b;
  after = drop (i + 1) batches;
  split = parted batches i b within is_next;
  lawful = lawful;
  is_its = is_its;
  refused = refused;
}
