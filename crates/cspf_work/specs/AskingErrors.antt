-- Defines the error that a worker reports if its asker (the object that computes its answers)
-- returns an error.
use Rattle.cspf_publish.specs.declared.errors.AskError.{AskError}
use Rattle.cspf_publish.specs.declared.errors.AskError.TheVariants as ask
use Rattle.cspf_work.specs.declared.serve_error.ServeError.{ServeError}
use Rattle.cspf_work.specs.declared.serve_error.ServeError.TheVariants as serve

-- for each error of an asker, the worker's error with the same name
abbrev pub serve_error_of : AskError → ServeError
serve_error_of ask.NoEntry = serve.NoEntry
serve_error_of ask.Memory = serve.Memory
