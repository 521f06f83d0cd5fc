-- The row of a change asks for this change, and rows that ask for the same step are equal.
use Rattle.std.proofs.Common.{◌≡◌, refl, sym, subst, ◌∙◌}
use Rattle.cspf_model.specs.declared.batch.Change.{Change}
use Rattle.cspf_model.specs.declared.batch.Change.TheVariants as change
use Rattle.cspf_rows.specs.declared.row.Row.{Row}
use Rattle.cspf_rows.specs.declared.row.Row.TheVariants as row
use Rattle.cspf_rows.specs.Journal.{change_row}
use Rattle.cspf_rows.specs.Steps.{step_of, AreStepsOfRows}
use Rattle.cspf_rows.specs.declared.step.Step.{Step}
use Rattle.cspf_rows.specs.declared.step.Step.TheVariants as step

pub change_step : (c : Change) → step_of (change_row c) ≡ step.Change c
change_step (change.Put link) = refl
change_step other = refl

-- the row that asks for this step
abbrev pub row_with : Step → Row
row_with (step.Change c) = change_row c
row_with (step.End number count) = row.End number count
row_with (step.Ask q) = row.Ask q

row_back : (r : Row) → r ≡ row_with (step_of r)
row_back (row.Put link) = refl
row_back other = refl

pub row_is : (r : Row) (s : Step) → step_of r ≡ s → r ≡ row_with s
row_is r s is = subst (λ (x : Step). r ≡ row_with x) is (row_back r)

pub steps_of_rows : AreStepsOfRows
steps_of_rows = (change_step, λ r s same. row_is r (step_of s) same ∙ sym (row_back s))
