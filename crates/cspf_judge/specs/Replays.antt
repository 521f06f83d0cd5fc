-- Defines why the batches of a journal can't be replayed.
use Rattle.std.specs.Prelude.{List}
use Rattle.cspf_model.specs.Numbered.{NumberedChanges}
use Rattle.cspf_model.specs.Refusals.{IsFirstUnfit}
use Rattle.cspf_judge.specs.declared.snapshots.replay_error.ReplayError.{ReplayError}
use Rattle.cspf_judge.specs.declared.snapshots.replay_error.ReplayError.TheVariants as error

-- Why batches can't be replayed. Memory may be refused, with any batches. Or the batch with this
-- number is the first one that doesn't fit the database of the batches before it, and `why` is the
-- reason.
abbrev pub IsReplayError : List NumberedChanges → ReplayError → Type 0
IsReplayError batches error.Memory = Unit {0}
IsReplayError batches (error.Refused number why) = IsFirstUnfit batches number why
