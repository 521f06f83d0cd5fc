-- Private: the operation on replicas that changes nothing.
use Rattle.std.specs.Prelude.{[]}
use Rattle.cspf_journal.specs.KnownBatches.{KnownBatches}
use Rattle.cspf_publish.specs.declared.replica.PendingBatch.{PendingBatch}

-- an operation whose batch has no changes; `known` are the replica's batches
abbrev pub idle_batch : KnownBatches → PendingBatch
idle_batch known = record { batch = record { number = 0; changes = [] }; known = known; shape_changes = 0 }
