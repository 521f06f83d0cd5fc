-- Defines which errors end a run over a journal and requests, or over updates and requests.
use Rattle.std.specs.Prelude.{◌≡◌, ℕ, ◌<◌, ◌⊎◌, Bool, List, length, Option, IfSome}
use Rattle.cspf_model.specs.Numbered.{NumberedChanges}
use Rattle.cspf_rows.specs.Records.{rows_of}
use Rattle.cspf_serve.specs.declared.streams.error.RunError.{RunError}
use Rattle.cspf_serve.specs.declared.streams.error.RunError.TheVariants.{Memory, Device, Places, Serve}
use Rattle.cspf_work.specs.declared.serve_error.ServeError.{ServeError}
use Rattle.cspf_work.specs.declared.serve_error.ServeError.TheVariants.{Unaccounted}
use Rattle.cspf_work.specs.Served.{IsFaultOfWorker}
use Rattle.cspf_judge.specs.Inputs.{AreBatchesOf}
use Rattle.cspf_judge.specs.declared.early_end.JudgeError.{JudgeError}
use Rattle.cspf_judge.specs.declared.early_end.JudgeError.TheVariants as judge_error

-- the `RunError` with the same name as this error of reading or writing a stream
abbrev pub judged_error_of : JudgeError → RunError
judged_error_of judge_error.Memory = Memory
judged_error_of judge_error.Device = Device

-- memory was refused, or a read or a write failed
abbrev pub IsStreamFault : RunError → Type 0
IsStreamFault e = (e ≡ Memory) ⊎ (e ≡ Device)

-- memory was refused, or the replicas (the two copies of the database's table) had no place for
-- another reader
abbrev pub IsOpeningFault : RunError → Type 0
IsOpeningFault e = (e ≡ Memory) ⊎ (e ≡ Places)

-- The workers didn't answer all requests. A worker had a fault, or an answer has an impossible
-- version. In the second case `IsStray` holds of the index of the request and of this version.
abbrev pub IsAnsweringFault : (ℕ → ℕ → Type 0) → RunError → Type 0
IsAnsweringFault IsStray e =
    ((fault : ServeError) × (e ≡ Serve fault) × IsFaultOfWorker fault)
    ⊎ ((index : ℕ) × (version : ℕ) × (e ≡ Serve (Unaccounted index version)) × IsStray index version)

-- an error that ends the run: reading or writing a stream fails, or the workers don't answer all
-- requests
abbrev pub IsRunFault : (ℕ → ℕ → Type 0) → RunError → Type 0
IsRunFault IsStray e = IsStreamFault e ⊎ IsAnsweringFault IsStray e

-- the answer to the request at this index has a version above the number of the journal's batches
abbrev pub IsStrayInBatchRun : Bool → Option (List ℕ) → Option (List ℕ) → ℕ → ℕ → Type 0
IsStrayInBatchRun accept_torn journal requests index version =
    IfSome requests (λ asked. index < length (rows_of asked))
    × IfSome journal (λ kept. (batches : List NumberedChanges)
    × AreBatchesOf accept_torn (rows_of kept) batches × (length batches < version))

-- an error that ends a run over a journal and requests, at the opening of its publisher or later
abbrev pub IsBatchFault : Bool → Option (List ℕ) → Option (List ℕ) → RunError → Type 0
IsBatchFault accept_torn journal requests e = IsOpeningFault e ⊎ IsRunFault (IsStrayInBatchRun accept_torn journal requests) e

-- The answer to the request at this index has a version that isn't published. Only two facts are
-- stated: the index is below the number of rows of the requests, and the version is above 0.
abbrev pub IsStrayInLiveRun : Option (List ℕ) → ℕ → ℕ → Type 0
IsStrayInLiveRun requests index version = IfSome requests (λ asked. index < length (rows_of asked)) × (0 < version)

-- an error that ends a run over updates and requests, at the opening of its publisher or later
abbrev pub IsLiveFault : Option (List ℕ) → RunError → Type 0
IsLiveFault requests e = IsOpeningFault e ⊎ IsRunFault (IsStrayInLiveRun requests) e
