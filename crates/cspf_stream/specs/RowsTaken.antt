-- How the rows of a stream are answered with the help of a sink.
use Rattle.std.specs.Prelude.{◌≡◌, ℕ, ◌+◌, ◌⊎◌, List, [], ◌∷◌, ◌++◌, length, Result, Ok, Err}
use Rattle.cspf_model.specs.declared.batch.Change.{Change}
use Rattle.cspf_rows.specs.declared.row.Row.{Row}
use Rattle.cspf_rows.specs.declared.row_error.RowError.{RowError}
use Rattle.cspf_stream.specs.EndRows.{IsRightEnd, IsStoppedOrWrong}
use Rattle.cspf_stream.specs.Lines.{refused_batch_line}
use Rattle.cspf_stream.specs.OpenChanges.{AreOpen}
use Rattle.cspf_stream.specs.RefusedRows.{refused_row_line}
use Rattle.cspf_stream.specs.Sinks.{SinkSpec}
use Rattle.cspf_rows.specs.Steps.{step_of}
use Rattle.cspf_stream.specs.declared.batch_refusal.BatchRefusal.{BatchRefusal}
use Rattle.cspf_stream.specs.declared.rows.Rows.{Rows}
use Rattle.cspf_rows.specs.declared.step.Step.{Step}
use Rattle.cspf_rows.specs.declared.step.Step.TheVariants as step

-- The state between two rows of a stream: the sink, the open changes, and two counts. `answers`
-- counts answered requests, and `refused` counts refused rows and batches.
pub record RowsState (S : Type 0) : Type 0 where
  pub sink : S
  pub changes : List Change
  pub answers : ℕ
  pub refused : ℕ

-- The code's value `rows` stores the state `s`. It has the same sink and the same counts, and keeps
-- the first open changes (`AreOpen`).
pub record KeepsRows {S : Type 0} (rows : Rows S) (s : RowsState S) : Type 0 where
  pub sink : rows.sink ≡ s.sink
  pub changes : AreOpen rows.changes s.changes
  pub answers : rows.answers ≡ s.answers
  pub refused : rows.refused ≡ s.refused

-- If `old` stores a state `s` (`KeepsRows`), `new` stores a state `t` such that `Step s t` holds.
abbrev pub RowsLead : {S : Type 0} → Rows S → Rows S → (RowsState S → RowsState S → Type 0) → Type 0
RowsLead {S} old new Step = (s : RowsState S) → KeepsRows old s → (t : RowsState S) × KeepsRows new t × Step s t

module _ {S : Type 0} (spec : SinkSpec S) where
  -- An `end` row of a stream with this number and count is right for this sink, if this many changes
  -- are open.
  abbrev pub IsRightFor : S → ℕ → ℕ → ℕ → Type 0
  IsRightFor sink number count changes = IsRightEnd (spec.stopped sink) (spec.version sink) (spec.next sink) number count changes

  -- why such an `end` row is refused before its batch goes to the sink
  abbrev pub IsWrongFor : S → ℕ → ℕ → ℕ → BatchRefusal → Type 0
  IsWrongFor sink number count changes why = IsStoppedOrWrong (spec.stopped sink) (spec.version sink) (spec.next sink) number count changes why

  -- The `end` row is right, and the sink accepts the open changes as the batch of this row, with
  -- these lines. The sink then goes to the state `new`.
  abbrev pub IsBatchTaken : S → ℕ → ℕ → List Change → List ℕ → S → Type 0
  IsBatchTaken sink number count changes lines new =
      IsRightFor sink number count (length changes) × spec.accepts sink (record { number = number; changes = changes }) lines new

  -- The batch of an `end` row is refused for the reason `why`. If the `end` row is wrong, the sink
  -- doesn't change.
  abbrev pub IsBatchDropped : S → ℕ → ℕ → List Change → BatchRefusal → S → Type 0
  IsBatchDropped sink number count changes why new =
      (IsWrongFor sink number count (length changes) why × (new ≡ sink))
      ⊎ (IsRightFor sink number count (length changes) × spec.refuses sink (record { number = number; changes = changes }) why new)

  -- The batch of an `end` row is accepted. Afterwards no change is open.
  pub record IsEndAccepted (s : RowsState S) (number count : ℕ) (line : List ℕ) (t : RowsState S) : Type 0 where
    pub taken : IsBatchTaken s.sink number count s.changes line t.sink
    pub after : t ≡ record { sink = t.sink; changes = []; answers = s.answers; refused = s.refused }

  -- The batch of an `end` row is refused. Afterwards no change is open.
  pub record IsEndRefused (s : RowsState S) (number count : ℕ) (line : List ℕ) (t : RowsState S) : Type 0 where
    pub why : BatchRefusal
    pub dropped : IsBatchDropped s.sink number count s.changes why t.sink
    pub line_is : line ≡ refused_batch_line number why
    pub after : t ≡ record { sink = t.sink; changes = []; answers = s.answers; refused = s.refused + 1 }

  -- In the state `s`, a row that asks for this step is answered with this line. `t` is the state
  -- after the row.
  abbrev pub IsStepTaken : RowsState S → Step → List ℕ → RowsState S → Type 0
  IsStepTaken s (step.Change c) line t = (line ≡ []) × (t ≡ record s { changes = s.changes ++ c ∷ [] })
  IsStepTaken s (step.End number count) line t = IsEndAccepted s number count line t ⊎ IsEndRefused s number count line t
  IsStepTaken s (step.Ask q) line t = spec.replies s.sink q line × (t ≡ record s { answers = s.answers + 1 })

  -- In the state `s`, row `place` is answered with this line. `t` is the state after the row.
  abbrev pub IsRowTaken : ℕ → RowsState S → Result Row RowError → List ℕ → RowsState S → Type 0
  IsRowTaken place s (Err error) line t = (line ≡ refused_row_line place error) × (t ≡ record s { refused = s.refused + 1 })
  IsRowTaken place s (Ok row) line t = IsStepTaken s (step_of row) line t

  -- Memory is refused while a row that asks for this step is answered. Either the state is
  -- unchanged, or a batch is refused and only its line is missing. No batch is accepted without its
  -- line.
  abbrev pub IsStepLost : RowsState S → Step → RowsState S → Type 0
  IsStepLost s (step.Change c) t = t ≡ s
  IsStepLost s (step.End number count) t = (t ≡ s) ⊎ ((line : List ℕ) × IsEndRefused s number count line t)
  IsStepLost s (step.Ask q) t = t ≡ s

  abbrev pub IsRowLost : RowsState S → Result Row RowError → RowsState S → Type 0
  IsRowLost s (Err error) t = t ≡ s
  IsRowLost s (Ok row) t = IsStepLost s (step_of row) t
