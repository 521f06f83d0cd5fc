-- The behaviour of a sink: its version, how it numbers batches, which batches it accepts or refuses,
-- and how it answers requests.
use Rattle.std.specs.Prelude.{ℕ, Bool, List}
use Rattle.cspf_model.specs.Numbered.{NumberedChanges}
use Rattle.cspf_model.specs.declared.request.Request.{Request}
use Rattle.cspf_stream.specs.declared.batch_refusal.BatchRefusal.{BatchRefusal}

pub record SinkSpec (S : Type 0) : Type 1 where
  -- the version of the sink, which each accepted batch raises
  pub version : S → ℕ
  -- the number of the next batch
  pub next : S → ℕ
  -- whether the sink is stopped, so that it accepts no more batches
  pub stopped : S → Bool
  -- In the first state the sink accepts the batch with these lines, and goes to the second state.
  pub accepts : S → NumberedChanges → List ℕ → S → Type 0
  -- In the first state the sink refuses the batch for this reason, and goes to the second state.
  pub refuses : S → NumberedChanges → BatchRefusal → S → Type 0
  -- In this state of the sink, the line answers the request.
  pub replies : S → Request → List ℕ → Type 0
