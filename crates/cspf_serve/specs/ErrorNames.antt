-- The error of a run whose publisher can't be opened.
use Rattle.cspf_publish.specs.declared.errors.OpenError.{OpenError}
use Rattle.cspf_publish.specs.declared.errors.OpenError.TheVariants as open_error
use Rattle.cspf_serve.specs.declared.streams.error.RunError.{RunError}
use Rattle.cspf_serve.specs.declared.streams.error.RunError.TheVariants as run

-- The `RunError` for each error of `open`. The error `Askers` (a wrong number of askers) doesn't
-- occur in a run, since the run passes a number that `open` allows.
abbrev pub run_error_of : OpenError → RunError
run_error_of open_error.Askers = run.Places
run_error_of open_error.Memory = run.Memory
run_error_of open_error.Places = run.Places
