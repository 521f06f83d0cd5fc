-- An error of reading or writing a stream (`JudgeError`) is a stream fault of the run. An error of
-- `open` is a fault of opening the run's publisher.
use Rattle.std.proofs.Common.{◌≡◌, ◌⊎◌, rules}
use Rattle.cspf_judge.specs.declared.early_end.JudgeError.{JudgeError}
use Rattle.cspf_publish.specs.declared.errors.OpenError.{OpenError}
use Rattle.cspf_publish.specs.declared.errors.OpenError.TheVariants as open_error
use Rattle.cspf_serve.specs.ErrorNames.{run_error_of}
use Rattle.cspf_serve.specs.RunFaults.{IsStreamFault, IsOpeningFault, judged_error_of}
use Rattle.cspf_serve.specs.declared.streams.error.RunError.{RunError}

pub judged : (fault : JudgeError) (e : RunError) → e ≡ judged_error_of fault → IsStreamFault e
judged fault e is = search rules

pub opening : (refused : OpenError) (e : RunError) → e ≡ run_error_of refused → (refused ≡ open_error.Memory) ⊎ (refused ≡ open_error.Places) → IsOpeningFault e
opening refused e is h2 = search rules
