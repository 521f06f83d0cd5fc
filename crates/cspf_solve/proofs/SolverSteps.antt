-- How the answer to a row of a stream changes the state of a run.
use Rattle.std.proofs.Common.{◌≡◌, ℕ, ◌+◌, false, List, [], ◌∷◌, ◌++◌, length, length-append, Result, Ok, Err, inl, inr, refl, sym, ap, subst, ◌∙◌, arith}
use Rattle.cspf_model.specs.Changes.{database_after}
use Rattle.cspf_model.specs.Laws.{OneMoreBatch, RefusedIsUnfit}
use Rattle.cspf_model.specs.declared.batch.Change.{Change}
use Rattle.cspf_rows.specs.declared.row.Row.{Row}
use Rattle.cspf_rows.specs.declared.row_error.RowError.{RowError}
use Rattle.cspf_rows.specs.declared.step.Step.{Step}
use Rattle.cspf_rows.specs.declared.step.Step.TheVariants as step
use Rattle.cspf_rows.specs.Steps.{step_of}
use Rattle.cspf_stream.specs.OpenChanges.{AreOpen}
use Rattle.cspf_stream.specs.RowsTaken.{RowsState, RowsLead, IsEndAccepted, IsEndRefused, IsBatchDropped, IsStepTaken, IsRowTaken}
use Rattle.cspf_stream.specs.declared.batch_refusal.BatchRefusal.{BatchRefusal}
use Rattle.cspf_stream.proofs.BatchRefusals.{IsNotAccepted, wrong_end, unfit_end}
use Rattle.cspf_solve.specs.declared.solver.Solver.{Solver}
use Rattle.cspf_solve.specs.declared.table_sink.TableSink.{TableSink}
use Rattle.cspf_solve.specs.Script.{RunState, at_next_row, after_refused_row, after_change_row, after_reply, after_batch, after_refused_batch, open_batch, IsEndAnswered, IsStepAnswered, IsRowAnswered}
use Rattle.cspf_solve.specs.SolverStates.{KeepsRun}
use Rattle.cspf_solve.specs.TableSinks.{table_spec}

-- The state `r` of the solver's rows agrees with the state `s` of the run. Both have the same
-- database, version and open changes, and the same counts of answers and refusals.
pub record IsOfRun (r : RowsState TableSink) (s : RunState) : Type 0 where
  pub table : r.sink.table.database ≡ database_after s.accepted
  pub version : r.sink.version ≡ length s.accepted
  pub changes : r.changes ≡ s.changes
  pub answers : r.answers ≡ s.answers
  pub refused : r.refused ≡ s.refused

-- The answer to a row takes a run from the state `s` to some state `after` with the same count of
-- rows. `Says` holds for `after`, and the state `t` of the solver's rows agrees with `after`
-- (`IsOfRun`).
abbrev Answered : RunState → (RunState → Type 0) → RowsState TableSink → Type 0
Answered s Says t = (after : RunState) × IsOfRun t after × Says after × (after.rows ≡ s.rows)

module _ (more : OneMoreBatch) (unfit : RefusedIsUnfit) (r t : RowsState TableSink) (s : RunState) (of : IsOfRun r s) (number count : ℕ) (line : List ℕ) where
  accepted : IsEndAccepted table_spec r number count line t → Answered s (IsEndAnswered s number count line) t
  accepted a =
      let right = a.taken.0 in
      let takes = a.taken.1 in
      let longer : length (s.accepted ++ (open_batch s number ∷ [])) ≡ length s.accepted + 1 = length-append s.accepted (open_batch s number ∷ []) in (
        after_batch s number,
        record {
          table = ap (λ (x : TableSink). x.table.database) takes.2 ∙ rw (of.table, of.changes) (sym (more s.accepted (open_batch s number)));
          version = ap (λ (x : TableSink). x.version) takes.2 ∙ ap (λ n. n + 1) of.version ∙ sym longer;
          changes = ap (λ (x : RowsState TableSink). x.changes) a.after;
          answers = ap (λ (x : RowsState TableSink). x.answers) a.after ∙ of.answers;
          refused = ap (λ (x : RowsState TableSink). x.refused) a.after ∙ of.refused;
        },
        inl (
          record {
            room = omega (arith, of.version, right.room);
            next = omega (arith, of.version, right.next);
            counted = right.counted ∙ ap length of.changes;
            fits = rw (of.table, of.changes) at takes.0;
          },
          takes.1,
          refl,
        ),
        refl,
      )

  why_dropped : (why : BatchRefusal) (sink : TableSink) → IsBatchDropped table_spec r.sink number count r.changes why sink
      → IsNotAccepted (length s.accepted) (length s.accepted + 1) s.changes (database_after s.accepted) number count why × (sink ≡ r.sink)
  why_dropped why sink (inl (wrong, same)) =
      (wrong_end (length s.accepted) (length s.accepted + 1) s.changes (database_after s.accepted) number count false why refl (rw (of.version, of.changes) at wrong), same)
  why_dropped why sink (inr (right, (unfits, is, refuses, same))) = (
    rw is
        (unfit_end (length s.accepted) (length s.accepted + 1) s.changes (database_after s.accepted) number count unfit false unfits (rw (of.version, of.changes) at right)
        (rw (of.table, of.changes) at refuses)),
    same,
  )

  refused : IsEndRefused table_spec r number count line t → Answered s (IsEndAnswered s number count line) t
  refused a =
      let d = why_dropped a.why t.sink a.dropped in (
        after_refused_batch s,
        record {
          table = ap (λ (x : TableSink). x.table.database) d.1 ∙ of.table;
          version = ap (λ (x : TableSink). x.version) d.1 ∙ of.version;
          changes = ap (λ (x : RowsState TableSink). x.changes) a.after;
          answers = ap (λ (x : RowsState TableSink). x.answers) a.after ∙ of.answers;
          refused = ap (λ (x : RowsState TableSink). x.refused) a.after ∙ ap (λ n. n + 1) of.refused;
        },
        inr (a.why, d.0.0, d.0.1, a.line_is, refl),
        refl,
      )

-- if the solver's rows agree with a run (`IsOfRun`), they still agree after the same change is
-- added to the open changes of both
changed : (r : RowsState TableSink) (s : RunState) (c : Change) → IsOfRun r s → IsOfRun (record r { changes = r.changes ++ c ∷ [] }) (after_change_row s c)
changed r s c of = record { table = of.table; version = of.version; changes = ap (λ cs. cs ++ c ∷ []) of.changes; answers = of.answers; refused = of.refused }

row_refused : (r : RowsState TableSink) (s : RunState) → IsOfRun r s → IsOfRun (record r { refused = r.refused + 1 }) (after_refused_row s)
row_refused r s of = record { table = of.table; version = of.version; changes = of.changes; answers = of.answers; refused = ap (λ n. n + 1) of.refused }

replied : (r : RowsState TableSink) (s : RunState) → IsOfRun r s → IsOfRun (record r { answers = r.answers + 1 }) (after_reply s)
replied r s of = record { table = of.table; version = of.version; changes = of.changes; answers = ap (λ n. n + 1) of.answers; refused = of.refused }

step_taken : OneMoreBatch → RefusedIsUnfit → (r t : RowsState TableSink) (s : RunState) (st : Step) (line : List ℕ) → IsOfRun r s → IsStepTaken table_spec r st line t
    → Answered s (IsStepAnswered s st line) t
step_taken more unfit r t s (step.Change c) line of a = (after_change_row s c, rw a.1 (changed r s c of), (a.0, refl), refl)
step_taken more unfit r t s (step.End number count) line of (inl a) = accepted more unfit r t s of number count line a
step_taken more unfit r t s (step.End number count) line of (inr a) = refused more unfit r t s of number count line a
step_taken more unfit r t s (step.Ask q) line of a =
    (after_reply s, rw a.1 (replied r s of), (a.0.0, rw of.table at a.0.1, rw of.version at a.0.2, refl), refl)

row_taken : OneMoreBatch → RefusedIsUnfit → (r t : RowsState TableSink) (s : RunState) (row : Result Row RowError) (line : List ℕ) → IsOfRun r s → IsRowTaken table_spec s.rows r row line t
    → Answered s (IsRowAnswered s row line) t
row_taken more unfit r t s (Err error) line of a = (after_refused_row s, rw a.1 (row_refused r s of), (a.0, refl), refl)
row_taken more unfit r t s (Ok row) line of a = step_taken more unfit r t s (step_of row) line of a

-- if the solver's rows answer a row as `IsRowTaken` of `cspf_stream` states, the solver answers
-- this row as `IsRowAnswered` states for a run
pub run_row : OneMoreBatch → RefusedIsUnfit → (k k' : Solver) (row : Result Row RowError) (line : List ℕ) → k'.read ≡ k.read + 1
    → RowsLead k.rows k'.rows (λ r t. IsRowTaken table_spec (k.read + 1) r row line t)
    → (s : RunState) → KeepsRun k s → (after : RunState) × KeepsRun k' after × IsRowAnswered (at_next_row s) row line after
run_row more unfit k k' row line read lead s kept =
    let r : RowsState TableSink = record { sink = k.rows.sink; changes = s.changes; answers = k.rows.answers; refused = k.rows.refused } in
    let led = lead r (record { sink = refl; changes = kept.changes; answers = refl; refused = refl }) in
    let place : k.read + 1 ≡ s.rows + 1 = ap (λ n. n + 1) kept.rows in
    let of : IsOfRun r (at_next_row s) = record { table = kept.table; version = kept.version; changes = refl; answers = kept.answers; refused = kept.refused } in
    let a = row_taken more unfit r led.0 (at_next_row s) row line of (rw place at led.2) in (
      a.0,
      record {
        table = ap (λ (x : TableSink). x.table.database) led.1.sink ∙ a.1.table;
        changes = subst (λ cs. AreOpen k'.rows.changes cs) a.1.changes led.1.changes;
        rows = read ∙ place ∙ sym a.3;
        version = ap (λ (x : TableSink). x.version) led.1.sink ∙ a.1.version;
        answers = led.1.answers ∙ a.1.answers;
        refused = led.1.refused ∙ a.1.refused;
      },
      a.2,
    )
