-- Which batches of a stream are accepted, and why a batch is refused. The order of the reasons is
-- defined only here.
use Rattle.std.specs.Prelude.{◌≡◌, ◌≢◌, ℕ, ◌<◌, ◌≤◌, Bool, true, false, List, length}
use Rattle.cspf_model.specs.declared.batch.Change.{Change}
use Rattle.cspf_model.specs.declared.limits.TheConstants.{MOST_VERSIONS}
use Rattle.cspf_model.specs.Database.{Database}
use Rattle.cspf_model.specs.Changes.{Fits}
use Rattle.cspf_model.specs.Refusals.{IsRefusal}
use Rattle.cspf_stream.specs.declared.batch_refusal.BatchRefusal.{BatchRefusal}
use Rattle.cspf_stream.specs.declared.batch_refusal.BatchRefusal.TheVariants as refusal

-- The batch of an `end` row with this number and count is accepted. The version is below 1,000,000,
-- and `number` is the number of the next batch. `count` is how many changes are open, and these
-- changes fit the database as a batch.
pub record IsBatchAccepted (version expected : ℕ) (changes : List Change) (d : Database) (number count : ℕ) : Type 0 where
  pub room : version < MOST_VERSIONS
  pub next : number ≡ expected
  pub counted : count ≡ length changes
  pub fits : Fits d (record { number = number; changes = changes })

-- Why an `end` row with this number and count is wrong if this many changes are open. The first
-- reason that applies is given. For all other reasons the batch is refused, though its `end` row is
-- right.
abbrev pub IsWrongEnd : ℕ → ℕ → ℕ → ℕ → ℕ → BatchRefusal → Type 0
IsWrongEnd version next number count changes refusal.Exhausted = MOST_VERSIONS ≤ version
IsWrongEnd version next number count changes (refusal.WrongNumber expected) = (version < MOST_VERSIONS) × (number ≢ next) × (expected ≡ next)
IsWrongEnd version next number count changes (refusal.WrongCount counted) =
    (version < MOST_VERSIONS) × (number ≡ next) × (count ≢ changes) × (counted ≡ changes)
IsWrongEnd version next number count changes other = ⊥

-- Why the batch of an `end` row with this number and count is refused: the `end` row is wrong, or
-- its batch doesn't fit the database. The first reason that applies is given. `Stopped`, `Journal`,
-- `Keep` and `Memory` never apply: here no text of a batch is written, and refused memory ends the
-- run.
abbrev pub IsBatchRefusal : ℕ → ℕ → List Change → Database → ℕ → ℕ → BatchRefusal → Type 0
IsBatchRefusal version next changes d number count (refusal.Unfit why) =
    (version < MOST_VERSIONS) × (number ≡ next) × (count ≡ length changes) × IsRefusal d (record { number = number; changes = changes }) why
IsBatchRefusal version next changes d number count why = IsWrongEnd version next number count (length changes) why

-- The `end` row is right. The sink hasn't stopped, and the version is below 1,000,000. The row's
-- number is that of the next batch, and its count is how many changes are open.
pub record IsRightEnd (stopped : Bool) (version expected number count changes : ℕ) : Type 0 where
  pub going : stopped ≡ false
  pub room : version < MOST_VERSIONS
  pub next : number ≡ expected
  pub counted : count ≡ changes

-- Why an `end` row is refused before its batch goes to the sink: the sink has stopped, or else the
-- row is wrong.
abbrev pub IsStoppedOrWrong : Bool → ℕ → ℕ → ℕ → ℕ → ℕ → BatchRefusal → Type 0
IsStoppedOrWrong stopped version next number count changes refusal.Stopped = stopped ≡ true
IsStoppedOrWrong stopped version next number count changes why = (stopped ≡ false) × IsWrongEnd version next number count changes why
