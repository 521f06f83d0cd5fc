-- The state of the code after it has answered an `end` row of a stream. The state has the sink, the
-- open changes, and the counts of answers and refusals.
use Rattle.std.proofs.Common.{◌≡◌, ℕ, ◌+◌, ◌⊎◌, List, [], Result, Ok, Err, IfOk, OnErr, inr, refl, ap, subst, ◌∙◌}
use Rattle.cspf_model.specs.declared.batch.Change.{Change}
use Rattle.cspf_stream.specs.Lines.{refused_batch_line}
use Rattle.cspf_stream.specs.OpenChanges.{AreOpen}
use Rattle.cspf_stream.specs.RowsTaken.{RowsLead, IsBatchTaken, IsBatchDropped, IsEndAccepted, IsEndRefused}
use Rattle.cspf_stream.specs.Sinks.{SinkSpec}
use Rattle.cspf_stream.specs.declared.batch_refusal.BatchRefusal.{BatchRefusal}
use Rattle.cspf_stream.specs.declared.rows.Rows.{Rows}

-- If `P` holds, `OnErr r P` holds for each result `r`.
pub at_error : {T E : Type 0} (P : Type 0) (r : Result T E) → P → OnErr r P
at_error P (Ok x) holds = tt
at_error P (Err e) holds = holds

module _ {S : Type 0} (spec : SinkSpec S) (k k' : Rows S) (number count : ℕ) (none : AreOpen k'.changes []) (answers : k'.answers ≡ k.answers) where
  -- If the sink accepts the batch of an `end` row, the code's value `k'` is in the state after the
  -- row, as `KeepsRows` defines it. In this state the batch is accepted, and no change is open.
  pub accepted : (lines : List ℕ) → k'.refused ≡ k.refused → ((all : List Change) → AreOpen k.changes all → IsBatchTaken spec k.sink number count all lines k'.sink)
      → RowsLead k k' (λ s t. IsEndAccepted spec s number count lines t)
  accepted lines refused taken = λ s kept. (
    record { sink = k'.sink; changes = []; answers = s.answers; refused = s.refused },
    record { sink = refl; changes = none; answers = answers ∙ kept.answers; refused = refused ∙ kept.refused },
    record {
      taken = subst (λ (x : S). IsBatchTaken spec x number count s.changes lines k'.sink) kept.sink (taken s.changes kept.changes);
      after = refl;
    },
  )

  -- Let the batch of an `end` row be refused. Then the code's new value `k'` stores a state in
  -- which one more batch is refused, and no change is open.
  dropped : (why : BatchRefusal) → k'.refused ≡ k.refused + 1 → ((all : List Change) → AreOpen k.changes all → IsBatchDropped spec k.sink number count all why k'.sink)
      → RowsLead k k' (λ s t. IsEndRefused spec s number count (refused_batch_line number why) t)
  dropped why refused is = λ s kept. (
    record { sink = k'.sink; changes = []; answers = s.answers; refused = s.refused + 1 },
    record { sink = refl; changes = none; answers = answers ∙ kept.answers; refused = refused ∙ ap (λ n. n + 1) kept.refused },
    record {
      why = why;
      dropped = subst (λ (x : S). IsBatchDropped spec x number count s.changes why k'.sink) kept.sink (is s.changes kept.changes);
      line_is = refl;
      after = refl;
    },
  )

  -- Let the batch of an `end` row be refused. Then the code's new value `k'` stores the state after
  -- this refusal, even if memory is refused for the row's line.
  pub refused_said : {T E : Type 0} (r : Result T E) (text : T → List ℕ) (why : BatchRefusal) → k'.refused ≡ k.refused + 1
      → ((all : List Change) → AreOpen k.changes all → IsBatchDropped spec k.sink number count all why k'.sink) → IfOk r (λ line. text line ≡ refused_batch_line number why)
      → IfOk r (λ line. RowsLead k k' (λ s t. IsEndAccepted spec s number count (text line) t ⊎ IsEndRefused spec s number count (text line) t))
      × OnErr r (RowsLead k k' (λ s t. (t ≡ s) ⊎ ((line : List ℕ) × IsEndRefused spec s number count line t)))
  refused_said (Ok line) text why refused is said = ((λ s kept. let led = dropped why refused is s kept in (led.0, led.1, inr (rw said led.2))), tt)
  refused_said (Err e) text why refused is said = (tt, λ s kept. let led = dropped why refused is s kept in (led.0, led.1, inr (refused_batch_line number why, led.2)))
