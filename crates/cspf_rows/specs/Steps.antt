-- What a row of a stream asks for: a change of the database, the end of a batch, or the answer to a
-- request.
use Rattle.std.specs.Prelude.{◌≡◌}
use Rattle.cspf_model.specs.declared.batch.Change.{Change}
use Rattle.cspf_model.specs.declared.batch.Change.TheVariants as change
use Rattle.cspf_rows.specs.declared.row.Row.{Row}
use Rattle.cspf_rows.specs.declared.row.Row.TheVariants as row
use Rattle.cspf_rows.specs.declared.step.Step.{Step}
use Rattle.cspf_rows.specs.declared.step.Step.TheVariants as step
use Rattle.cspf_rows.specs.Journal.{change_row}

-- the step that a row asks for
abbrev pub step_of : Row → Step
step_of (row.Put link) = step.Change (change.Put link)
step_of (row.Remove from local) = step.Change (change.Remove from local)
step_of (row.Node router transit) = step.Change (change.Node router transit)
step_of (row.End number count) = step.End number count
step_of (row.Ask q) = step.Ask q

-- The row of a change asks for this change, and rows that ask for the same step are equal. So a
-- statement about steps is a statement about rows.
abbrev pub AreStepsOfRows : Type 0
AreStepsOfRows = ((c : Change) → step_of (change_row c) ≡ step.Change c) × ((r s : Row) → step_of r ≡ step_of s → r ≡ s)
