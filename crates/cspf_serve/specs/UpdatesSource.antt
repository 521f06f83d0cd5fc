-- Private: the updates of a run keep the identity of the publisher's journal (its source).
use Rattle.std.proofs.Common.{ℕ, add-one, Option, List, sym, ◌∙◌}
use Rattle.cspf_publish.specs.PublisherStates.{PublisherState}
use Rattle.cspf_serve.specs.Publishing.{HasOneSource}
use Rattle.cspf_serve.specs.Updates.{UpdatesState}
use Rattle.cspf_serve.specs.UpdatesStates.{KeptUpdates, KeepsUpdates, IsUpdateTaken, IsUpdateFailed, updates_spec}

-- the same state after `before` rows
abbrev after_rows : ℕ → UpdatesState → UpdatesState
after_rows before s = record s { run = record s.run { rows = before } }

-- what the code keeps doesn't depend on the number of rows
keeps_after_rows : {J : Type 0} (contents : J → Option (List ℕ)) (first : PublisherState J) (k : KeptUpdates J) (s : UpdatesState) (before : ℕ) → KeepsUpdates contents first k s
    → KeepsUpdates contents first k (after_rows before s)
keeps_after_rows contents first k s before kept = record {
  published = record {
    source = kept.published.source;
    batches = kept.published.batches;
    stopped = kept.published.stopped;
    journal = kept.published.journal;
    steps = kept.published.steps;
  };
  changes = kept.changes;
  refused = kept.refused;
}

pub updates_have_one_source : {J F : Type 0} (contents : J → Option (List ℕ)) → HasOneSource {F = F} (updates_spec contents) (IsUpdateTaken contents) (λ fault. IsUpdateFailed contents)
updates_have_one_source contents = record {
  answered = λ before k k' fields line is a.
      let after = a is.0 (after_rows before is.1) (keeps_after_rows contents is.0 k is.1 before is.2) (sym (add-one before)) in
      ((is.0, after.0, after.1), after.1.published.source ∙ sym is.2.published.source);
  failed = λ fault before k k' fields is a.
      let after = a is.0 (after_rows before is.1) (keeps_after_rows contents is.0 k is.1 before is.2) (sym (add-one before)) in
      after.1.published.source ∙ sym is.2.published.source;
}
