-- Each row of a stream adds at most 1 to each count of a run. These are the counts of rows, of open
-- changes, of answers and of refusals.
use Rattle.std.proofs.Common.{ℕ, List, [], ◌∷◌, length-append, Result, Ok, Err, inl, inr, refl, arith}
use Rattle.cspf_model.specs.declared.batch.Change.{Change}
use Rattle.cspf_rows.specs.declared.row.Row.{Row}
use Rattle.cspf_rows.specs.declared.row.Row.TheVariants as row
use Rattle.cspf_rows.specs.declared.row_error.RowError.{RowError}
use Rattle.cspf_solve.specs.Script.{RunState, at_next_row, after_change_row, after_batch, after_refused_batch, after_refused_row, after_reply, IsRowAnswered}
use Rattle.cspf_solve.specs.SolveLaws.{AreWithin}

within_change : (s : RunState) (c : Change) → AreWithin s (after_change_row (at_next_row s) c) 1
within_change s c = record {
  rows = refl;
  changes = omega (arith, length-append s.changes (c ∷ []));
  answers = omega arith;
  refused = omega arith;
}

within_refused : (s : RunState) → AreWithin s (after_refused_row (at_next_row s)) 1
within_refused s = record { rows = refl; changes = omega arith; answers = omega arith; refused = omega arith }

within_batch : (s : RunState) (number : ℕ) → AreWithin s (after_batch (at_next_row s) number) 1
within_batch s number = record { rows = refl; changes = omega arith; answers = omega arith; refused = omega arith }

within_refused_batch : (s : RunState) → AreWithin s (after_refused_batch (at_next_row s)) 1
within_refused_batch s = record { rows = refl; changes = omega arith; answers = omega arith; refused = omega arith }

within_reply : (s : RunState) → AreWithin s (after_reply (at_next_row s)) 1
within_reply s = record { rows = refl; changes = omega arith; answers = omega arith; refused = omega arith }

pub within_row : (s t : RunState) (r : Result Row RowError) (line : List ℕ) → IsRowAnswered (at_next_row s) r line t → AreWithin s t 1
within_row s t (Err error) line a = rw a.1 (within_refused s)
within_row s t (Ok (row.End number count)) line (inl a) = rw a.2 (within_batch s number)
within_row s t (Ok (row.End number count)) line (inr a) = rw a.4 (within_refused_batch s)
within_row s t (Ok (row.Ask q)) line a = rw a.3 (within_reply s)
within_row s t (Ok change) line a = rw a.1 (within_change s _)
